use Rattle.std.proofs.Common.{ℕ, ◌<◌, get_or}
use Rattle.io_model.specs.declared.file.FileEnd.{FileEnd}
use Rattle.io_script.specs.Ranges.{IsFileInRange}
use Rattle.io_script.proofs.ranges.numbers_of_files.Given as goal

abbrev pub invariant-loop-i : goal.invariant-loop-i
invariant-loop-i l = (k : ℕ) → k < l.i → (d : FileEnd) → IsFileInRange (get_or l.ends k d)
