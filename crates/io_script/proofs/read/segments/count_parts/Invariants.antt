use Rattle.std.proofs.Common.{◌≡◌, ◌≤◌, ◌+◌, length}
use Rattle.io_script.specs.GrammarNumbers.{parts}
use Rattle.io_script.proofs.read.segments.count_parts.Given as goal

abbrev pub invariant-loop-after : goal.invariant-loop-after
invariant-loop-after l = (l.count + length (parts l.left) ≡ length (parts l.word) + 1) × (l.count + length l.left ≤ length l.word + 1)

abbrev pub decreases-loop-after : goal.decreases-loop-after
decreases-loop-after l = length l.left
