use Rattle.std.proofs.Common.{◌≡◌, ◌≤◌, ◌*◌, take}
use Rattle.std.specs.List.{sum}
use Rattle.io_script.proofs.read.calls.total.Given as goal

abbrev pub invariant-loop-n : goal.invariant-loop-n
invariant-loop-n l = (l.all ≡ sum (take l.n-index l.sizes)) × (l.all ≤ 18446744073709551615 * l.n-index)
