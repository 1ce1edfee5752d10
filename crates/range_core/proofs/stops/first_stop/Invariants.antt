use Rattle.std.proofs.Common.{◌≡◌, ◌+◌, drop}
use Rattle.range_core.specs.Refusals.{first_that_stops}
use Rattle.range_core.proofs.stops.first_stop.Given as goal

abbrev pub invariant-loop-i : goal.invariant-loop-i
invariant-loop-i g l =
    first_that_stops (g.T.Hinders.hinders l.test) (l.block + l.i) (drop l.i l.cells) ≡ first_that_stops (g.T.Hinders.hinders l.test) l.block l.cells
