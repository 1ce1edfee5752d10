use Rattle.std.proofs.Common.{ℕ, ◌<◌, get_or}
use Rattle.io_model.specs.declared.run.LaneEnd.{LaneEnd}
use Rattle.io_script.specs.Ranges.{IsLaneInRange}
use Rattle.io_script.proofs.ranges.numbers_of_lanes.Given as goal

abbrev pub invariant-loop-lane : goal.invariant-loop-lane
invariant-loop-lane l = (k : ℕ) → k < l.lane-index → (d : LaneEnd) → IsLaneInRange (get_or l.lanes k d)
