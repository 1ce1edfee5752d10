use Rattle.call_traces.proofs.JournalLemmas.{weigh-calls}
use Rattle.call_traces.proofs.laws.journals_weigh_calls.Goals as goal

pub returns : goal.returns
returns c = weigh-calls
