use Rattle.call_traces.proofs.WriteLemmas.{returns_add_up}
use Rattle.call_traces.proofs.blocks.returns_add_up.Goals as goal

pub returns : goal.returns
returns c = returns_add_up
