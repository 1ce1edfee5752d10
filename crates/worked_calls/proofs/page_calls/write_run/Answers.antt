use Rattle.worked_calls.proofs.Standing.{may-call, stays-called}
use Rattle.worked_calls.proofs.page_calls.write_run.Goals as goal

pub write_back-answer-requires : goal.write_back-answer-requires
write_back-answer-requires g c = may-call c.args.mount.now c.args.pass.now c.is_laid_out.ensures c.requires c.next_number-call.result c.next_number-call.ensures

pub returns : goal.returns
returns g c = stays-called c.args.mount.now c.args.pass.now c.is_laid_out.ensures c.requires c.write_back-answer.new.pass c.next_number-call.result c.write_back-answer.ensures.written.acts c.write_back-answer.ensures.pass c.write_back-answer.ensures.written.out.did.acted
