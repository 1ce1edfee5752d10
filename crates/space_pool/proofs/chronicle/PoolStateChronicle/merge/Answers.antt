use Rattle.space_pool.proofs.Keeping.{keeps-merge}
use Rattle.space_pool.proofs.chronicle.PoolStateChronicle.merge.Goals as goal

pub returns-clause-truth : goal.returns-clause-truth
returns-clause-truth c opening value history stakes number other made given stands apart there = keeps-merge stands other c.args.from c.join.new.self given apart there c.join.ensures
