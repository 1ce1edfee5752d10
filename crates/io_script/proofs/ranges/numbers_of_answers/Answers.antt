use Rattle.std.proofs.Common.{below_more, arith}
use Rattle.io_script.specs.Ranges.{IsAnswerInRange}
use Rattle.io_script.proofs.Items.{holds_there}
use Rattle.io_script.proofs.ranges.numbers_of_answers.Goals as goal

pub loop-answer-preserved : goal.loop-answer-preserved
loop-answer-preserved c =
    below_more _ _ c.loop-answer.invariant (λ d. holds_there IsAnswerInRange c.args.answers.now c.loop-answer.answer-index _ d c.loop-answer-test.true c.numbers_of_answer.ensures)

pub returns : goal.returns
returns c = λ k d lt. c.loop-answer.invariant k (omega arith) d
