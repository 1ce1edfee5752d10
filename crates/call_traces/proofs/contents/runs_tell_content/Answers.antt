use Rattle.call_traces.proofs.RunContentLemmas.{runs-tell-content}
use Rattle.call_traces.proofs.contents.runs_tell_content.Goals as goal

pub returns : goal.returns
returns c = runs-tell-content
