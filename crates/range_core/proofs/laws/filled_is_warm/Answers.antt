use Rattle.range_core.proofs.RefusedAlikeLemmas.{filled_is_warm}
use Rattle.range_core.proofs.laws.filled_is_warm.Goals as goal

pub returns : goal.returns
returns c = filled_is_warm
