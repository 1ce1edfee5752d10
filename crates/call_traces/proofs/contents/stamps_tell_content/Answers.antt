use Rattle.call_traces.proofs.ContentLemmas.{stamps-tell-content}
use Rattle.call_traces.proofs.contents.stamps_tell_content.Goals as goal

pub returns : goal.returns
returns c = stamps-tell-content
