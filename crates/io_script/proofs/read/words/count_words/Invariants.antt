use Rattle.std.proofs.Common.{◌≡◌, ◌≤◌, ◌+◌, length}
use Rattle.io_script.specs.GrammarWords.{words}
use Rattle.io_script.proofs.read.words.count_words.Given as goal

abbrev pub invariant-loop-after : goal.invariant-loop-after
invariant-loop-after l = (l.count + length (words l.left) ≡ length (words l.line)) × (l.count + length l.left ≤ length l.line)

abbrev pub decreases-loop-after : goal.decreases-loop-after
decreases-loop-after l = length l.left
