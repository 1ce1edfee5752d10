use Rattle.call_traces.proofs.WriteLemmas.{mapped_was_put}
use Rattle.call_traces.proofs.blocks.mapped_was_put.Goals as goal

pub returns : goal.returns
returns c = mapped_was_put
