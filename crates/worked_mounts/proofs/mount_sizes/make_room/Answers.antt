use Rattle.worked_mounts.proofs.Going.{alone-goes, goes-size, share-goes}
use Rattle.worked_mounts.proofs.Sizing.{room-leaves, room-made}
use Rattle.worked_mounts.proofs.mount_sizes.make_room.Goals as goal

pub size_turn-requires-clause-leaves : goal.size_turn-requires-clause-leaves
size_turn-requires-clause-leaves g c = λ opening history before after claims left later out entry d. room-leaves claims left _ _ out d.ok d.err

pub returns-clause-alone : goal.returns-clause-alone
returns-clause-alone g c = alone-goes c.args.mount.now c.args.pass.now c.size_turn.new.pass c.requires.alone c.size_turn.ensures.of (goes-size c.size_turn.ensures.turned)

pub returns-clause-share : goal.returns-clause-share
returns-clause-share g c = share-goes c.args.pass.now c.size_turn.new.pass (goes-size c.size_turn.ensures.turned)

pub returns-clause-room : goal.returns-clause-room
returns-clause-room g c = room-made c.args.mount.now c.args.pass.now c.size_turn.new.pass _ _ c.size_turn.result c.size_turn.ensures.turned
