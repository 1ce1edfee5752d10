use Rattle.buffered_write.proofs.RoomLemmas.{made-room}
use Rattle.buffered_write.proofs.size_room.make_room.Goals as goal

pub returns-clause-made : goal.returns-clause-made
returns-clause-made g c = made-room c.args.mount.now c.args.file c.args.pass.now c.size_turn.new.pass c.size_turn.result _ _ c.size_turn.ensures.turned
