use Rattle.std.proofs.Common.{arith}
use Rattle.buffered_write.proofs.PwriteLemmas.{in-room}
use Rattle.buffered_write.proofs.RoomLemmas.{room-kept, sizes-kept}
use Rattle.buffered_write.proofs.WriteLemmas.{ends-high}
use Rattle.buffered_write.proofs.writing.write_in_room.Goals as goal

pub use_room-requires-clause-room : goal.use_room-requires-clause-room
use_room-requires-clause-room g c =
    let w = c.write_range-came.ensures.written in
    room-kept c.args.mount.now c.args.file c.args.pass.now c.write_range-came.new.pass (sizes-kept w.laid.acts c.args.pass.now c.write_range-came.new.pass w.laid.steps.did.acted w.laid.steps.sizes) c.requires.room

pub use_room-requires-clause-order : goal.use_room-requires-clause-order
use_room-requires-clause-order g c = c.write_range-came.ensures.written.laid.begins

pub use_room-requires-clause-within : goal.use_room-requires-clause-within
use_room-requires-clause-within g c =
    let high = ends-high c.args.mount.now.geometry.block_size c.args.from c.args.to c.write_range-came.result.at c.write_range-came.result.fault _ c.write_range-came.ensures.ends in
    omega (arith, high, c.requires.within)

pub returns-clause-written : goal.returns-clause-written
returns-clause-written g c =
    in-room c.args.mount.now c.args.file c.args.by c.args.from c.args.to _ _ c.args.iov.now c.write_range-came.new.iov c.write_range-came.result c.args.pass.now c.write_range-came.new.pass c.use_room.new.pass c.requires.sized c.write_range-came.ensures.written c.use_room.ensures.used
    c.use_room.ensures.of c.use_room.ensures.tickets
