use Rattle.call_traces.proofs.RunLemmas.{runs-weigh-calls}
use Rattle.call_traces.proofs.laws.runs_weigh_calls.Goals as goal

pub returns : goal.returns
returns c = runs-weigh-calls
