use Rattle.call_traces.proofs.OrderLemmas.{order-kept}
use Rattle.call_traces.proofs.laws.order_is_kept.Goals as goal

pub returns : goal.returns
returns c = order-kept
