use Rattle.buffered_write.proofs.RoomLemmas.{room-kept, sizes-kept}
use Rattle.buffered_write.proofs.TruncLemmas.{cut-settled, stops-so}
use Rattle.buffered_write.proofs.truncating.cut_in_room.Goals as goal

pub settle_room-requires-clause-room : goal.settle_room-requires-clause-room
settle_room-requires-clause-room g c =
    let w = c.clear_any-came.ensures.cleared.laid in
    room-kept c.args.mount.now c.args.file c.args.pass.now c.clear_any-came.new.pass (sizes-kept w.acts c.args.pass.now c.clear_any-came.new.pass w.steps.did.acted w.steps.sizes) c.requires.room

pub returns-clause-cut : goal.returns-clause-cut
returns-clause-cut g c =
    cut-settled c.args.mount.now c.args.file c.args.by c.args.size c.args.to _ _ c.args.pass.now c.clear_any-came.new.pass c.settle_room.new.pass c.clear_any-came.result c.requires.sized c.clear_any-came.ensures.cleared c.settle_room.ensures.settled
    c.settle_room.ensures.of c.settle_room.ensures.tickets

pub returns-clause-stops : goal.returns-clause-stops
returns-clause-stops g c = stops-so c.args.mount.now.geometry.block_size c.args.size c.args.to c.clear_any-came.result.at c.clear_any-came.result.fault c.clear_any-came.ensures.ends
