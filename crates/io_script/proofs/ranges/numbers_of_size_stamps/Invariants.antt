use Rattle.std.proofs.Common.{ℕ, ◌<◌, get_or}
use Rattle.io_model.specs.declared.file.SizeStamp.{SizeStamp}
use Rattle.io_script.specs.Ranges.{IsSizeStampInRange}
use Rattle.io_script.proofs.ranges.numbers_of_size_stamps.Given as goal

abbrev pub invariant-loop-stamp : goal.invariant-loop-stamp
invariant-loop-stamp l = (k : ℕ) → k < l.stamp-index → (d : SizeStamp) → IsSizeStampInRange (get_or l.stamps k d)
