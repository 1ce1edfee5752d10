use Rattle.call_traces.proofs.SpaceLemmas.{dirty_is_no_hole}
use Rattle.call_traces.proofs.blocks.dirty_is_no_hole.Goals as goal

pub returns : goal.returns
returns c = dirty_is_no_hole
