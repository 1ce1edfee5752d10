use Rattle.std.proofs.Common.{below_more, arith}
use Rattle.io_script.specs.Ranges.{IsExtentInRange}
use Rattle.io_script.proofs.Items.{holds_there}
use Rattle.io_script.proofs.ranges.numbers_of_extents.Goals as goal

pub loop-extent-preserved : goal.loop-extent-preserved
loop-extent-preserved c =
    below_more _ _ c.loop-extent.invariant (λ d. holds_there IsExtentInRange c.args.extents.now c.loop-extent.extent-index _ d c.loop-extent-test.true c.numbers_of_extent.ensures)

pub returns : goal.returns
returns c = λ k d lt. c.loop-extent.invariant k (omega arith) d
