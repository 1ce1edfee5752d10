use Rattle.call_traces.proofs.RunLemmas.{runs-hold-calls}
use Rattle.call_traces.proofs.laws.runs_hold_calls.Goals as goal

pub returns : goal.returns
returns c = runs-hold-calls
