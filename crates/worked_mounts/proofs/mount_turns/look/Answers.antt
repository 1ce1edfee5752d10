use Rattle.std.proofs.Common.{arith}
use Rattle.mini_fs.proofs.MapSteps.{look-ready}
use Rattle.worked_mounts.specs.Alone.{only_file}
use Rattle.worked_mounts.proofs.Going.{alone-goes, goes-turn, share-goes}
use Rattle.worked_mounts.proofs.Mapped.{mapping-turn}
use Rattle.worked_mounts.proofs.mount_turns.look.Goals as goal

pub sample-requires-clause-ready : goal.sample-requires-clause-ready
sample-requires-clause-ready g c =
    let within = c.expect_run.ensures.within in
    look-ready c.args.mount.now only_file c.is_laid_out.ensures c.args.pass.now c.args.block c.args.most (omega (arith, within)) (omega arith)

pub returns-clause-alone : goal.returns-clause-alone
returns-clause-alone g c = alone-goes c.args.mount.now c.args.pass.now c.sample.new.pass c.requires c.sample.ensures.of (goes-turn c.sample.ensures.turned)

pub returns-clause-share : goal.returns-clause-share
returns-clause-share g c = share-goes c.args.pass.now c.sample.new.pass (goes-turn c.sample.ensures.turned)

pub returns-clause-mapping : goal.returns-clause-mapping
returns-clause-mapping g c = mapping-turn c.sample.ensures.of c.sample.ensures.turned
