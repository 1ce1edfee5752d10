use Rattle.std.proofs.Common.{sym, subst}
use Rattle.size_core.specs.declared.entry.SizeEvent.TheVariants.{Ready}
use Rattle.buffered_write.specs.Truncates.{CutsInRoom}
use Rattle.buffered_write.proofs.TruncLemmas.{room-made, room-none, sized-at}
use Rattle.buffered_write.proofs.truncating.cut_up_to.Goals as goal

pub cut_in_room-requires-clause-goes : goal.cut_in_room-requires-clause-goes
cut_in_room-requires-clause-goes g c = sized-at c.args.mount.now c.args.file c.args.by c.args.pass.now c.make_room.new.pass (Ready c.make_room.result) c.make_room.ensures.made.turned c.make_room.ensures.of c.requires.goes

pub cut_in_room-requires-clause-room : goal.cut_in_room-requires-clause-room
cut_in_room-requires-clause-room g c = c.in-Ok.ensures.made.room

pub returns-in-Ok-clause-cut : goal.returns-in-Ok-clause-cut
returns-in-Ok-clause-cut g c =
    room-made c.args.mount.now c.args.file c.args.by c.args.size c.args.to _ _ c.args.pass.now c.make_room.new.pass c.cut_in_room.new.pass c.cut_in_room.result c.in-Ok.field-0 c.requires.sized c.in-Ok.ensures.made c.make_room.ensures.tickets c.cut_in_room.ensures.cut

pub returns-in-Err-clause-cut : goal.returns-in-Err-clause-cut
returns-in-Err-clause-cut g c =
    subst (CutsInRoom c.args.mount.now c.args.file c.args.by c.args.size c.args.to _ _ c.args.pass.now c.make_room.new.pass) (sym c.wanting.ensures)
    (room-none c.args.mount.now c.args.file c.args.by c.args.size c.args.to _ c.args.pass.now c.make_room.new.pass c.in-Err.field-0 c.requires.sized c.in-Err.ensures.made c.make_room.ensures.of c.make_room.ensures.tickets)
