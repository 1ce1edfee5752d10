use Rattle.std.proofs.Common.{◌≡◌, ◌++◌, length, map}
use Rattle.io_script.specs.GrammarNumbers.{segment_bytes, parts}
use Rattle.io_script.proofs.read.segments.segments.Given as goal

abbrev pub invariant-loop-part : goal.invariant-loop-part
invariant-loop-part l = l.all.items ++ map segment_bytes (parts l.left) ≡ map segment_bytes (parts l.word)

abbrev pub decreases-loop-part : goal.decreases-loop-part
decreases-loop-part l = length l.left
