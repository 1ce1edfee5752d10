use Rattle.std.proofs.Common.{below_more, arith}
use Rattle.io_script.specs.Ranges.{IsCallInRange}
use Rattle.io_script.proofs.Items.{holds_of}
use Rattle.io_script.proofs.ranges.numbers_of_calls.Goals as goal

pub loop-i-preserved : goal.loop-i-preserved
loop-i-preserved c =
    below_more _ _ c.loop-i.invariant
    (λ d. holds_of IsCallInRange c.args.ends.now c.loop-i.i c.index-ends-i.result d c.loop-i-test.true c.index-ends-i.is c.numbers_of_call.ensures)

pub returns : goal.returns
returns c = λ k d lt. c.loop-i.invariant k (omega arith) d
