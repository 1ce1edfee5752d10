use Rattle.worked_calls.proofs.Standing.{may-call, stays-called}
use Rattle.worked_calls.proofs.data_calls.give_space.Goals as goal

pub allocate-answer-requires : goal.allocate-answer-requires
allocate-answer-requires g c = may-call c.args.mount.now c.args.pass.now c.is_laid_out.ensures c.requires c.next_number-call.result c.next_number-call.ensures

pub returns : goal.returns
returns g c = stays-called c.args.mount.now c.args.pass.now c.is_laid_out.ensures c.requires c.allocate-answer.new.pass c.next_number-call.result c.allocate-answer.ensures.allocated.acts c.allocate-answer.ensures.pass c.allocate-answer.ensures.allocated.did.acted
