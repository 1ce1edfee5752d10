use Rattle.std.proofs.Common.{ℕ, ◌<◌, get_or}
use Rattle.io_model.specs.declared.file.BlockEnd.{BlockEnd}
use Rattle.io_script.specs.Ranges.{IsBlockInRange}
use Rattle.io_script.proofs.ranges.numbers_of_blocks.Given as goal

abbrev pub invariant-loop-i : goal.invariant-loop-i
invariant-loop-i l = (k : ℕ) → k < l.i → (d : BlockEnd) → IsBlockInRange (get_or l.blocks k d)
