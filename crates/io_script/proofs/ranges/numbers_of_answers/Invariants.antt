use Rattle.std.proofs.Common.{ℕ, ◌<◌, get_or}
use Rattle.iob_base.specs.declared.answer.Answer.{Answer}
use Rattle.io_script.specs.Ranges.{IsAnswerInRange}
use Rattle.io_script.proofs.ranges.numbers_of_answers.Given as goal

abbrev pub invariant-loop-answer : goal.invariant-loop-answer
invariant-loop-answer l = (k : ℕ) → k < l.answer-index → (d : Answer) → IsAnswerInRange (get_or l.answers k d)
