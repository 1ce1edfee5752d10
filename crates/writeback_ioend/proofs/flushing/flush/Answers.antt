use Rattle.std.proofs.Common.{refl}
use Rattle.writeback_ioend.proofs.FlushLemmas.{run-flushes, run-leaves}
use Rattle.writeback_ioend.proofs.flushing.flush.Goals as goal

pub returns-clause-flushed : goal.returns-clause-flushed
returns-clause-flushed g c = run-flushes c.args.mount.now c.args.file c.args.from c.args.blocks _ _ c.args.pass.now c.write_run-written.new.pass c.write_run-written.result c.write_run-written.ensures _ c.flush_fault.ensures refl

pub returns-clause-pass : goal.returns-clause-pass
returns-clause-pass g c = run-leaves c.args.mount.now c.args.file c.args.from c.args.blocks _ _ c.args.pass.now c.write_run-written.new.pass c.write_run-written.result c.write_run-written.ensures
