use Rattle.worked_mounts.proofs.Parting.{can-split, split-alone, split-given, split-share}
use Rattle.worked_calls.proofs.passes.split.Goals as goal

pub split_pass-requires-clause-can : goal.split_pass-requires-clause-can
split_pass-requires-clause-can g c = can-split c.args.mount.now c.args.pass.now c.requires.alone c.expect_spare.ensures c.requires.share

pub returns-clause-alone : goal.returns-clause-alone
returns-clause-alone g c = split-alone c.args.mount.now c.args.pass.now c.split_pass.new.pass c.requires.alone c.requires.share c.split_pass.result c.split_pass.ensures.of c.split_pass.ensures.ok c.split_pass.ensures.err

pub returns-clause-share : goal.returns-clause-share
returns-clause-share g c = split-share c.args.mount.now c.args.pass.now c.split_pass.new.pass c.requires.alone c.requires.share c.split_pass.result c.split_pass.ensures.ok

pub returns-clause-given : goal.returns-clause-given
returns-clause-given g c = split-given c.args.mount.now c.args.pass.now c.split_pass.new.pass c.requires.alone c.requires.share c.split_pass.result c.split_pass.ensures.ok c.split_pass.ensures.made
