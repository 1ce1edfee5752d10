use Rattle.std.proofs.Common.{ℕ, ◌<◌, get_or}
use Rattle.io_model.specs.declared.file.Extent.{Extent}
use Rattle.io_script.specs.Ranges.{IsExtentInRange}
use Rattle.io_script.proofs.ranges.numbers_of_extents.Given as goal

abbrev pub invariant-loop-extent : goal.invariant-loop-extent
invariant-loop-extent l = (k : ℕ) → k < l.extent-index → (d : Extent) → IsExtentInRange (get_or l.extents k d)
