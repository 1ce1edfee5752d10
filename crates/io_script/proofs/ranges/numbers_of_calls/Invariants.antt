use Rattle.std.proofs.Common.{ℕ, ◌<◌, get_or}
use Rattle.io_model.specs.declared.run.CallEnd.{CallEnd}
use Rattle.io_script.specs.Ranges.{IsCallInRange}
use Rattle.io_script.proofs.ranges.numbers_of_calls.Given as goal

abbrev pub invariant-loop-i : goal.invariant-loop-i
invariant-loop-i l = (k : ℕ) → k < l.i → (d : CallEnd) → IsCallInRange (get_or l.ends k d)
