use Rattle.call_traces.proofs.OrderLemmas.{absent-anywhere}
use Rattle.call_traces.proofs.laws.absent_stands_anywhere.Goals as goal

pub returns : goal.returns
returns c = absent-anywhere
