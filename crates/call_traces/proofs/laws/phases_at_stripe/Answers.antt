use Rattle.call_traces.proofs.SeatTraceLemmas.{phases-at}
use Rattle.call_traces.proofs.laws.phases_at_stripe.Goals as goal

pub returns : goal.returns
returns c = phases-at
