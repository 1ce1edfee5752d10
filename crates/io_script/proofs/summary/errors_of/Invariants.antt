use Rattle.std.proofs.Common.{◌≡◌, ◌≤◌, take}
use Rattle.io_script.specs.Summary.{errors_in}
use Rattle.io_script.proofs.summary.errors_of.Given as goal

abbrev pub invariant-loop-i : goal.invariant-loop-i
invariant-loop-i l = record {
  errors : l.errors ≡ errors_in (take l.i l.calls);
  small : l.errors ≤ l.i;
}
