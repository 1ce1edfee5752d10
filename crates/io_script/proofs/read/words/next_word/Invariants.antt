use Rattle.std.proofs.Common.{◌≡◌, ◌≤◌, length}
use Rattle.io_script.specs.GrammarWords.{words}
use Rattle.io_script.proofs.read.words.next_word.Given as goal

abbrev pub invariant-loop-word : goal.invariant-loop-word
invariant-loop-word l = (words l.left ≡ words l.line) × (length l.left ≤ length l.line)

abbrev pub decreases-loop-word : goal.decreases-loop-word
decreases-loop-word l = length l.left
