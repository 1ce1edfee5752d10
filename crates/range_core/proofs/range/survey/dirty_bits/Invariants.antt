use Rattle.std.proofs.Common.{◌≡◌, ◌-◌, drop}
use Rattle.range_core.specs.Surveys.{dirty_word}
use Rattle.range_core.proofs.range.survey.dirty_bits.Given as goal

abbrev pub invariant-loop-i : goal.invariant-loop-i
invariant-loop-i l = l.word ≡ dirty_word (drop (l.n - l.i) l.cells) l.i
