use Rattle.call_traces.proofs.JournalLemmas.{keep-order}
use Rattle.call_traces.proofs.laws.journals_keep_order.Goals as goal

pub returns : goal.returns
returns c = keep-order
