use Rattle.call_traces.proofs.WriteLemmas.{calls_convert}
use Rattle.call_traces.proofs.blocks.calls_convert.Goals as goal

pub returns : goal.returns
returns c = calls_convert
