use Rattle.extent_map.specs.Sorts.{NoneBetween, is_sort}
use Rattle.extent_map.proofs.walk.next_of_sort.Given as goal

abbrev pub invariant-loop-x : goal.invariant-loop-x
invariant-loop-x l = NoneBetween (is_sort l.hole) l.kinds l.b l.x
