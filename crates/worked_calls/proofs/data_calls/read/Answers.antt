use Rattle.worked_calls.proofs.Standing.{may-call, stays-called}
use Rattle.worked_calls.proofs.data_calls.read.Goals as goal

pub pread-answer-requires-clause-may : goal.pread-answer-requires-clause-may
pread-answer-requires-clause-may g c = may-call c.args.mount.now c.args.pass.now c.is_laid_out.ensures c.requires c.next_number-call.result c.next_number-call.ensures

pub returns-in_err-got : goal.returns-in_err-got
returns-in_err-got g c = stays-called c.args.mount.now c.args.pass.now c.is_laid_out.ensures c.requires c.pread-answer.new.pass c.next_number-call.result c.pread-answer.ensures.read.acts c.pread-answer.ensures.pass c.pread-answer.ensures.read.did.acted

pub returns : goal.returns
returns g c = stays-called c.args.mount.now c.args.pass.now c.is_laid_out.ensures c.requires c.pread-answer.new.pass c.next_number-call.result c.pread-answer.ensures.read.acts c.pread-answer.ensures.pass c.pread-answer.ensures.read.did.acted
