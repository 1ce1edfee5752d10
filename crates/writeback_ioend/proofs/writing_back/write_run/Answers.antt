use Rattle.std.proofs.Common.{refl}
use Rattle.writeback_ioend.proofs.WriteOuts.{none-written, run-written}
use Rattle.writeback_ioend.proofs.writing_back.write_run.Goals as goal

pub returns-then-to-from : goal.returns-then-to-from
returns-then-to-from g c = none-written c.args.mount.now c.args.file c.args.waits c.args.from c.args.blocks c.run_end-to.result _ c.args.pass.now _ c.requires.of c.run_end-to.ensures c.if-to-from.true refl refl refl refl

pub returns : goal.returns
returns g c = run-written c.args.mount.now c.args.file c.args.waits c.args.from c.args.blocks c.run_end-to.result _ _ c.args.pass.now c.write_range.new.pass c.write_range.result c.run_end-to.ensures c.if-to-from.false c.write_range.ensures.written
