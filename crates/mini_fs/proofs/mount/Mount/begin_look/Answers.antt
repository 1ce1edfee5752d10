use Rattle.std.proofs.Common.{Ok, ap}
use Rattle.mini_fs.proofs.Begins.{made-look}
use Rattle.mini_fs.proofs.mount.Mount.begin_look.Goals as goal

pub returns-clause-made : goal.returns-clause-made
returns-clause-made g c = made-look c.args.self.now c.args.file c.args.block c.args.most c.look-seen.result c.args.pass.now c.look-seen.new.pass c.look-seen.new.pass c.look-seen.ensures.turn (Ok c.begun.result) (ap Ok c.begun.ensures.is)
