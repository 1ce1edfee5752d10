use Rattle.call_traces.proofs.BlockRuns.{runs_convert}
use Rattle.call_traces.proofs.blocks.runs_convert.Goals as goal

pub returns : goal.returns
returns c = runs_convert
