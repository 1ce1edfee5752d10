use Rattle.std.proofs.Common.{ℕ, ◌<◌, get_or}
use Rattle.iob_base.specs.declared.stamp.Stamp.{Stamp}
use Rattle.io_script.specs.Ranges.{IsWord}
use Rattle.io_script.proofs.ranges.numbers_of_stamps.Given as goal

abbrev pub invariant-loop-stamp : goal.invariant-loop-stamp
invariant-loop-stamp l = (k : ℕ) → k < l.stamp-index → (d : Stamp) → (IsWord (get_or l.stamps k d).call)
