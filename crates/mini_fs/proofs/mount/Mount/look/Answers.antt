use Rattle.mini_fs.proofs.MapSteps.{look-given, look-lies, look-ready, look-starts}
use Rattle.mini_fs.proofs.mount.Mount.look.Goals as goal

pub sample-requires-clause-ready : goal.sample-requires-clause-ready
sample-requires-clause-ready g c = look-ready c.args.self.now c.args.file c.is_laid_out.ensures c.args.pass.now c.args.block c.args.most c.requires.block c.requires.some

pub returns-clause-lies : goal.returns-clause-lies
returns-clause-lies g c = look-lies c.args.self.now c.args.file c.is_laid_out.ensures c.args.pass.now c.sample.new.pass c.args.block c.args.most c.sample.result c.requires.block c.sample.ensures.turned

pub returns-clause-starts : goal.returns-clause-starts
returns-clause-starts g c = look-starts c.args.self.now c.args.file c.args.pass.now c.sample.new.pass c.args.block c.args.most c.sample.result c.sample.ensures.turned

pub returns-clause-given : goal.returns-clause-given
returns-clause-given g c = look-given c.args.self.now c.args.file c.args.pass.now c.sample.new.pass c.args.block c.args.most c.sample.result c.sample.ensures.turned
