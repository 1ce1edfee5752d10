use Rattle.worked_calls.proofs.Standing.{may-call, stays-called}
use Rattle.worked_calls.proofs.data_calls.cut.Goals as goal

pub truncate-answer-requires-clause-may : goal.truncate-answer-requires-clause-may
truncate-answer-requires-clause-may g c = may-call c.args.mount.now c.args.pass.now c.is_laid_out.ensures c.requires c.next_number-call.result c.next_number-call.ensures

pub returns : goal.returns
returns g c = stays-called c.args.mount.now c.args.pass.now c.is_laid_out.ensures c.requires c.truncate-answer.new.pass c.next_number-call.result c.truncate-answer.ensures.truncated.acts c.truncate-answer.ensures.pass c.truncate-answer.ensures.truncated.did.acted
