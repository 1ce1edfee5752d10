use Rattle.mini_fs.proofs.MapSteps.{run-ready}
use Rattle.worked_mounts.specs.Alone.{only_file}
use Rattle.worked_mounts.proofs.Going.{alone-goes, goes-turn, share-goes}
use Rattle.worked_mounts.proofs.Mapped.{mapping-turn}
use Rattle.worked_mounts.proofs.mount_turns.place.Goals as goal

pub preallocate-requires-clause-ready : goal.preallocate-requires-clause-ready
preallocate-requires-clause-ready g c =
    let run = c.expect_run.ensures in
    run-ready c.args.mount.now only_file c.is_laid_out.ensures c.args.pass.now c.args.block c.args.blocks run.some run.within run.stripe

pub returns-clause-alone : goal.returns-clause-alone
returns-clause-alone g c = alone-goes c.args.mount.now c.args.pass.now c.preallocate.new.pass c.requires c.preallocate.ensures.of (goes-turn c.preallocate.ensures.turned)

pub returns-clause-share : goal.returns-clause-share
returns-clause-share g c = share-goes c.args.pass.now c.preallocate.new.pass (goes-turn c.preallocate.ensures.turned)

pub returns-clause-mapping : goal.returns-clause-mapping
returns-clause-mapping g c = mapping-turn c.preallocate.ensures.of c.preallocate.ensures.turned
