use Rattle.range_core.proofs.RefusedAlikeLemmas.{history_refuses}
use Rattle.range_core.proofs.laws.history_refuses.Goals as goal

pub returns : goal.returns
returns c = history_refuses
