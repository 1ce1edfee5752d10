use Rattle.worked_calls.proofs.Standing.{may-call, stays-called}
use Rattle.worked_calls.proofs.data_calls.punch_bytes.Goals as goal

pub punch-answer-requires : goal.punch-answer-requires
punch-answer-requires g c = record { may = may-call c.args.mount.now c.args.pass.now c.is_laid_out.ensures c.requires c.next_number-call.result c.next_number-call.ensures }

pub returns : goal.returns
returns g c = stays-called c.args.mount.now c.args.pass.now c.is_laid_out.ensures c.requires c.punch-answer.new.pass c.next_number-call.result c.punch-answer.ensures.punched.acts c.punch-answer.ensures.pass c.punch-answer.ensures.punched.did.acted
