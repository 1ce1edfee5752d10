use Rattle.std.proofs.Common.{arith}
use Rattle.mini_fs.proofs.MapSteps.{place-faults, run-ready}
use Rattle.mini_fs.proofs.mount.Mount.place.Goals as goal

pub preallocate-requires-clause-block : goal.preallocate-requires-clause-block
preallocate-requires-clause-block g c = let within = c.requires.lies.within in let some = c.requires.lies.some in omega arith

pub preallocate-requires-clause-ready : goal.preallocate-requires-clause-ready
preallocate-requires-clause-ready g c = run-ready c.args.self.now c.args.file c.is_laid_out.ensures c.args.pass.now c.args.extent.block c.args.extent.length c.requires.lies.some c.requires.lies.within c.requires.lies.stripe

pub returns-clause-err : goal.returns-clause-err
returns-clause-err g c = place-faults c.args.self.now c.args.file c.args.pass.now c.preallocate.new.pass c.args.extent.block c.args.extent.length c.preallocate.result c.preallocate.ensures.turned
