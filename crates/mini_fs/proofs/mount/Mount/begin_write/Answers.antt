use Rattle.mini_fs.proofs.Begins.{last-write, more-stale}
use Rattle.mini_fs.proofs.mount.Mount.begin_write.Goals as goal

pub loop-preserved : goal.loop-preserved
loop-preserved g c = record {
  of = c.begin_write_once.ensures.of;
  made = more-stale c.args.self.now c.args.file c.args.block c.args.most c.args.pass.now c.loop.pass c.begin_write_once.new.pass c.loop.invariant.made c.in-None-begin_write_once.ensures.made;
}

pub returns-in-Some-begin_write_once-clause-made : goal.returns-in-Some-begin_write_once-clause-made
returns-in-Some-begin_write_once-clause-made g c = last-write c.args.self.now c.args.file c.args.block c.args.most c.in-Some-begin_write_once.answer c.args.pass.now c.loop.pass c.begin_write_once.new.pass c.loop.invariant.made c.in-Some-begin_write_once.ensures.made
