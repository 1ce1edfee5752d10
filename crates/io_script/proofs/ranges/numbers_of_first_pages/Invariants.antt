use Rattle.std.proofs.Common.{ℕ, ◌<◌, get_or}
use Rattle.io_model.specs.declared.script.Call.{Call}
use Rattle.io_script.specs.Ranges.{IsWord}
use Rattle.io_script.proofs.ranges.numbers_of_first_pages.Given as goal

abbrev pub invariant-loop-i : goal.invariant-loop-i
invariant-loop-i l = (k : ℕ) → k < l.i → (d : Call) → IsWord (get_or l.calls k d).first_page
