use Rattle.std.proofs.Common.{ap, ◌∙◌}
use Rattle.mini_fs.specs.SizeTurns.{without_rooms}
use Rattle.worked_mounts.proofs.Going.{alone-goes, goes-size, share-goes}
use Rattle.worked_mounts.proofs.Sizing.{enter-ready}
use Rattle.worked_mounts.proofs.mount_sizes.grow.Goals as goal

pub size_turn-requires-clause-ready : goal.size_turn-requires-clause-ready
size_turn-requires-clause-ready g c = enter-ready c.args.mount.now c.make_room.new.pass c.args.to c.is_laid_out.ensures c.make_room.ensures.alone c.expect_size.ensures.sized c.expect_size.ensures.within c.in_ok-make_room.ensures.room

pub size_turn-requires-clause-leaves : goal.size_turn-requires-clause-leaves
size_turn-requires-clause-leaves g c = λ opening history before after claims left later out entry d. ap without_rooms d.claims_are

pub returns-clause-alone : goal.returns-clause-alone
returns-clause-alone g c = alone-goes c.args.mount.now c.make_room.new.pass c.size_turn.new.pass c.make_room.ensures.alone c.size_turn.ensures.of (goes-size c.size_turn.ensures.turned)

pub returns-clause-share : goal.returns-clause-share
returns-clause-share g c = share-goes c.make_room.new.pass c.size_turn.new.pass (goes-size c.size_turn.ensures.turned) ∙ c.make_room.ensures.share
