use Rattle.worked_calls.proofs.Standing.{may-call, stays-called}
use Rattle.worked_calls.proofs.data_calls.zero.Goals as goal

pub zero_range-answer-requires : goal.zero_range-answer-requires
zero_range-answer-requires g c = record { may = may-call c.args.mount.now c.args.pass.now c.is_laid_out.ensures c.requires c.next_number-call.result c.next_number-call.ensures }

pub returns : goal.returns
returns g c = stays-called c.args.mount.now c.args.pass.now c.is_laid_out.ensures c.requires c.zero_range-answer.new.pass c.next_number-call.result c.zero_range-answer.ensures.zeroed.acts c.zero_range-answer.ensures.pass c.zero_range-answer.ensures.zeroed.did.acted
