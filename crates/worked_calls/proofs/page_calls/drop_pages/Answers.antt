use Rattle.worked_calls.proofs.Standing.{may-call, stays-called}
use Rattle.worked_calls.proofs.page_calls.drop_pages.Goals as goal

pub drop_cache-answer-requires : goal.drop_cache-answer-requires
drop_cache-answer-requires g c = may-call c.args.mount.now c.args.pass.now c.is_laid_out.ensures c.requires c.next_number-call.result c.next_number-call.ensures

pub returns : goal.returns
returns g c = stays-called c.args.mount.now c.args.pass.now c.is_laid_out.ensures c.requires c.drop_cache-answer.new.pass c.next_number-call.result c.drop_cache-answer.ensures.dropped.acts c.drop_cache-answer.ensures.pass c.drop_cache-answer.ensures.dropped.did.acted
