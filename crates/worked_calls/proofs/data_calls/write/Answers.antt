use Rattle.worked_calls.proofs.Standing.{may-call, stays-called}
use Rattle.worked_calls.proofs.data_calls.write.Goals as goal

pub pwrite-answer-requires-clause-may : goal.pwrite-answer-requires-clause-may
pwrite-answer-requires-clause-may g c = may-call c.args.mount.now c.args.pass.now c.is_laid_out.ensures c.requires c.next_number-call.result c.next_number-call.ensures

pub returns : goal.returns
returns g c = stays-called c.args.mount.now c.args.pass.now c.is_laid_out.ensures c.requires c.pwrite-answer.new.pass c.next_number-call.result c.pwrite-answer.ensures.written.acts c.pwrite-answer.ensures.pass c.pwrite-answer.ensures.written.did.acted
