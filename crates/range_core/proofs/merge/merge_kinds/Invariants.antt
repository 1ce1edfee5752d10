use Rattle.std.proofs.Common.{◌≡◌, ◌+◌, true, map, take}
use Rattle.io_model.specs.Fitting.{is_merged_from}
use Rattle.range_core.specs.Kinds.{kinds_from}
use Rattle.range_core.proofs.merge.merge_kinds.Given as goal

abbrev pub invariant-loop-i : goal.invariant-loop-i
invariant-loop-i l =
    (is_merged_from l.first (l.first + l.i) l.extents.items ≡ true)
    × (kinds_from l.extents.items l.first l.i ≡ map (λ c. c.kind) (take l.i l.cells))
