use Rattle.std.proofs.Common.{◌≡◌, ◌%◌, take}
use Rattle.io_script.specs.Summary.{sum_in}
use Rattle.io_script.proofs.summary.sum_of.Given as goal

abbrev pub invariant-loop-i : goal.invariant-loop-i
invariant-loop-i l = l.all ≡ sum_in (take l.i l.calls) % 18446744073709551616
