use Rattle.std.proofs.Common.{◌≡◌, ◌≤◌, ◌*◌, ◌+◌, take}
use Rattle.std.specs.List.{sum}
use Rattle.io_script.specs.GrammarCalls.{pages_for}
use Rattle.io_script.proofs.read.calls.pages_needed.Given as goal

abbrev pub invariant-loop-n : goal.invariant-loop-n
invariant-loop-n l = (l.all ≡ pages_for l.fn.size (take l.n-index l.sizes)) × (l.all ≤ sum (take l.n-index l.sizes) + 4095 * l.n-index)
