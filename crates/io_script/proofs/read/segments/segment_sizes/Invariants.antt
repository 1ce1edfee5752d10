use Rattle.std.proofs.Common.{◌≡◌, ◌++◌, length, map}
use Rattle.io_script.specs.GrammarNumbers.{segment_length, parts}
use Rattle.io_script.proofs.read.segments.segment_sizes.Given as goal

abbrev pub invariant-loop-part : goal.invariant-loop-part
invariant-loop-part l = l.all.items ++ map segment_length (parts l.left) ≡ map segment_length (parts l.word)

abbrev pub decreases-loop-part : goal.decreases-loop-part
decreases-loop-part l = length l.left
