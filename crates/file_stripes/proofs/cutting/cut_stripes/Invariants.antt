use Rattle.std.proofs.Common.{◌-◌, length}
use Rattle.std.specs.Vec.Iter.{into_iter_items}
use Rattle.file_stripes.proofs.StripeLemmas.{Cutting}
use Rattle.file_stripes.proofs.cutting.cut_stripes.Given as goal

abbrev pub invariant-loop-low : goal.invariant-loop-low
invariant-loop-low l = Cutting 64 l.kinds.items l.low l.stripes.items (into_iter_items l.initial.held) (into_iter_items l.held)

abbrev pub decreases-loop-low : goal.decreases-loop-low
decreases-loop-low l = length l.kinds.items - l.low
