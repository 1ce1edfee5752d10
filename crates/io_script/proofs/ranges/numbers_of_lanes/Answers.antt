use Rattle.std.proofs.Common.{below_more, arith}
use Rattle.io_script.specs.Ranges.{IsLaneInRange}
use Rattle.io_script.proofs.Items.{holds_there}
use Rattle.io_script.proofs.ranges.numbers_of_lanes.Goals as goal

pub loop-lane-preserved : goal.loop-lane-preserved
loop-lane-preserved c =
    below_more _ _ c.loop-lane.invariant (λ d. holds_there IsLaneInRange c.args.lanes.now c.loop-lane.lane-index _ d c.loop-lane-test.true c.numbers_of_lane.ensures)

pub returns : goal.returns
returns c = λ k d lt. c.loop-lane.invariant k (omega arith) d
