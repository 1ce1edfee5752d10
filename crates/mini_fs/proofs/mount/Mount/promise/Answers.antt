use Rattle.std.proofs.Common.{arith}
use Rattle.mini_fs.proofs.MapSteps.{promise-faults, promise-lies, promise-ready}
use Rattle.mini_fs.proofs.mount.Mount.promise.Goals as goal

pub reserve-requires-clause-block : goal.reserve-requires-clause-block
reserve-requires-clause-block g c = let within = c.requires.lies.within in let some = c.requires.lies.some in omega arith

pub reserve-requires-clause-ready : goal.reserve-requires-clause-ready
reserve-requires-clause-ready g c = promise-ready c.args.self.now c.args.file c.is_laid_out.ensures c.args.pass.now c.args.seen c.requires.cached c.requires.hole c.requires.lies c.requires.given

pub returns-clause-lies : goal.returns-clause-lies
returns-clause-lies g c = promise-lies c.args.self.now c.args.file c.args.pass.now c.reserve.new.pass c.args.seen c.args.seen.extent.length c.reserve.result (omega arith) c.requires.lies c.reserve.ensures.turned

pub returns-clause-err : goal.returns-clause-err
returns-clause-err g c = promise-faults c.args.self.now c.args.file c.args.pass.now c.reserve.new.pass c.args.seen c.args.seen.extent.length c.reserve.result c.reserve.ensures.turned
