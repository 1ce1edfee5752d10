use Rattle.call_traces.proofs.LeftContentLemmas.{traced-is-told}
use Rattle.call_traces.proofs.contents.traced_is_told.Goals as goal

pub returns : goal.returns
returns c = traced-is-told
