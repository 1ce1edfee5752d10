use Rattle.std.proofs.Common.{◌<◌, arith}
use Rattle.size_core.specs.declared.entry.SizeEvent.TheVariants.{Ready}
use Rattle.mini_fs.specs.Mappings.{file_end}
use Rattle.buffered_write.proofs.PwriteLemmas.{made-so, refused-so, size-goes}
use Rattle.buffered_write.proofs.WriteLemmas.{end-some}
use Rattle.buffered_write.proofs.writing.write_sized.Goals as goal

pub write_in_room-requires-clause-goes : goal.write_in_room-requires-clause-goes
write_in_room-requires-clause-goes g c = size-goes c.args.mount.now c.args.file c.args.by c.args.pass.now c.make_room.new.pass (Ready c.make_room.result) c.make_room.ensures.made.turned c.make_room.ensures.of c.requires.goes

pub write_in_room-requires-clause-room : goal.write_in_room-requires-clause-room
write_in_room-requires-clause-room g c = c.in-Ok.ensures.made.room

pub returns-in-Ok-clause-written : goal.returns-in-Ok-clause-written
returns-in-Ok-clause-written g c =
    made-so c.args.mount.now c.args.file c.args.by c.args.from c.args.to _ _ c.args.iov.now c.write_in_room.new.iov c.write_in_room.result c.args.pass.now c.make_room.new.pass c.write_in_room.new.pass c.in-Ok.field-0 c.requires.sized c.in-Ok.ensures.made c.make_room.ensures.tickets c.write_in_room.ensures.written

pub returns-in-Err-clause-written : goal.returns-in-Err-clause-written
returns-in-Err-clause-written g c =
    let less : c.args.from < file_end c.args.mount.now c.args.file = omega (arith, c.requires.some, c.requires.within) in
    refused-so c.args.mount.now c.args.file c.args.by c.args.from c.args.to _ c.args.iov.now c.args.pass.now c.make_room.new.pass c.in-Err.field-0 (end-some c.args.mount.now c.args.file c.args.from less) c.requires.sized c.in-Err.ensures.made c.make_room.ensures.of c.make_room.ensures.tickets
