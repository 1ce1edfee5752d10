use Rattle.call_traces.proofs.BlockRuns.{runs_keep_space}
use Rattle.call_traces.proofs.blocks.runs_keep_space.Goals as goal

pub returns : goal.returns
returns c = runs_keep_space
