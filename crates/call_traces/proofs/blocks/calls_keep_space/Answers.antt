use Rattle.call_traces.proofs.SpaceLemmas.{calls_keep_space}
use Rattle.call_traces.proofs.blocks.calls_keep_space.Goals as goal

pub returns : goal.returns
returns c = calls_keep_space
