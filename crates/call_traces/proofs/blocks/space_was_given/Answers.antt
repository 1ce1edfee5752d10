use Rattle.call_traces.proofs.SpaceLemmas.{space_was_given}
use Rattle.call_traces.proofs.blocks.space_was_given.Goals as goal

pub returns : goal.returns
returns c = space_was_given
