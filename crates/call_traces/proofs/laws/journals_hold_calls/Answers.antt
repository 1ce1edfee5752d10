use Rattle.call_traces.proofs.JournalLemmas.{hold-calls}
use Rattle.call_traces.proofs.laws.journals_hold_calls.Goals as goal

pub returns : goal.returns
returns c = hold-calls
