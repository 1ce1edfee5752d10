use Rattle.extent_map.proofs.Walking.{Merging}
use Rattle.extent_map.proofs.walk.merge.Given as goal

abbrev pub invariant-loop-i : goal.invariant-loop-i
invariant-loop-i l = Merging l.kinds l.i l.extents.items
