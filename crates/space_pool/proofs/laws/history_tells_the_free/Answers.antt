use Rattle.space_pool.proofs.Closing.{history_tells_the_free}
use Rattle.space_pool.proofs.laws.history_tells_the_free.Goals as goal

pub returns : goal.returns
returns c = history_tells_the_free
