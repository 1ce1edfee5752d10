use Rattle.std.proofs.Common.{◌<◌, ◌≤◌, ◌-◌, length}
use Rattle.extent_map.specs.Keeping.{start_of}
use Rattle.extent_map.proofs.place.place_of.Given as goal

abbrev pub invariant-loop-high : goal.invariant-loop-high
invariant-loop-high l =
    (l.low < l.high) × (l.high ≤ length l.runs) × (start_of l.runs l.low ≤ l.b) × (l.b < start_of l.runs l.high)

abbrev pub decreases-loop-high : goal.decreases-loop-high
decreases-loop-high l = l.high - l.low
