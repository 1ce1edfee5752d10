use Rattle.call_traces.proofs.LeftContentLemmas.{calls-tell-content}
use Rattle.call_traces.proofs.contents.calls_tell_content.Goals as goal

pub returns : goal.returns
returns c = calls-tell-content
