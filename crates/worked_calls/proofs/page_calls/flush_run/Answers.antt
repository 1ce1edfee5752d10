use Rattle.worked_calls.proofs.Standing.{has-shares, stays-within}
use Rattle.worked_calls.proofs.page_calls.flush_run.Goals as goal

pub flush-flushed-requires-clause-shares : goal.flush-flushed-requires-clause-shares
flush-flushed-requires-clause-shares g c = has-shares c.args.mount.now c.args.pass.now c.is_laid_out.ensures c.requires

pub returns : goal.returns
returns g c = stays-within c.args.mount.now c.args.pass.now c.is_laid_out.ensures c.requires c.flush-flushed.new.pass c.flush-flushed.ensures.flushed.acts c.flush-flushed.ensures.pass c.flush-flushed.ensures.flushed.out.did.acted
