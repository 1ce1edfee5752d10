use Rattle.std.proofs.Common.{◌≡◌, ◌+◌, ◌-◌, ◌++◌}
use Rattle.std.specs.Vec.Iter.{into_iter_items}
use Rattle.range_core.specs.Cells.{cells_of}
use Rattle.range_core.specs.Kinds.{kinds_from}
use Rattle.range_core.proofs.open.build_cells.Given as goal

abbrev pub invariant-loop-i : goal.invariant-loop-i
invariant-loop-i l =
    cells_of (kinds_from l.extents l.first l.blocks) (into_iter_items l.initial.rest)
    ≡ l.cells.items ++ cells_of (kinds_from l.extents (l.first + l.i) (l.blocks - l.i)) (into_iter_items l.rest)
