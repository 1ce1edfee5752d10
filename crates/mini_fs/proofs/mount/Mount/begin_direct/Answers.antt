use Rattle.mini_fs.proofs.Begins.{last-direct, more-placed}
use Rattle.mini_fs.proofs.mount.Mount.begin_direct.Goals as goal

pub loop-preserved : goal.loop-preserved
loop-preserved g c = record {
  of = c.begin_direct_once.ensures.of;
  made = more-placed c.args.self.now c.args.file c.args.block c.args.most c.loop.new c.args.pass.now c.loop.pass c.begin_direct_once.new.pass c.loop.invariant.made c.in-None-begin_direct_once.ensures.made;
}

pub returns-in-Some-begin_direct_once-clause-made : goal.returns-in-Some-begin_direct_once-clause-made
returns-in-Some-begin_direct_once-clause-made g c = last-direct c.args.self.now c.args.file c.args.block c.args.most c.loop.new c.in-Some-begin_direct_once.answer c.args.pass.now c.loop.pass c.begin_direct_once.new.pass c.loop.invariant.made c.in-Some-begin_direct_once.ensures.made
