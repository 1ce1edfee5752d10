use Rattle.std.proofs.Common.{◌≡◌, ◌++◌, length, map}
use Rattle.io_script.specs.GrammarNumbers.{value_of, parts}
use Rattle.io_script.proofs.read.segments.lengths.Given as goal

abbrev pub invariant-loop-part : goal.invariant-loop-part
invariant-loop-part l = l.all.items ++ map value_of (parts l.left) ≡ map value_of (parts l.word)

abbrev pub decreases-loop-part : goal.decreases-loop-part
decreases-loop-part l = length l.left
