use Rattle.std.proofs.Common.{refl}
use Rattle.writeback_ioend.proofs.WriteOuts.{of-begun, shares-begun, write-answers, write-leaves}
use Rattle.writeback_ioend.proofs.writing_back.write_back.Goals as goal

pub write_run-written-requires-clause-of : goal.write_run-written-requires-clause-of
write_run-written-requires-clause-of g c = of-begun c.args.mount.now c.args.call c.args.pass.now c.start_call.new.self c.start_call.ensures.pass c.requires.of

pub write_run-written-requires-clause-shares : goal.write_run-written-requires-clause-shares
write_run-written-requires-clause-shares g c = shares-begun c.args.mount.now c.args.file c.args.call c.args.pass.now c.start_call.new.self c.start_call.ensures.pass c.requires

pub returns-clause-written : goal.returns-clause-written
returns-clause-written g c = write-answers c.args.mount.now c.args.file c.args.call c.args.from c.args.blocks _ _ c.args.pass.now c.start_call.new.self c.write_run-written.new.pass c.write_run-written.result c.start_call.ensures.pass c.write_run-written.ensures _ c.written_reply.ensures refl

pub returns-clause-pass : goal.returns-clause-pass
returns-clause-pass g c = write-leaves c.args.mount.now c.args.file c.args.call c.args.from c.args.blocks _ _ c.args.pass.now c.start_call.new.self c.write_run-written.new.pass c.write_run-written.result c.start_call.ensures.pass c.write_run-written.ensures c.requires
