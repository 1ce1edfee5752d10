use Rattle.std.proofs.Common.{◌≡◌, ◌≤◌}
use Rattle.range_core.specs.OnRun.{count_on}
use Rattle.range_core.proofs.place.count_run.Given as goal

abbrev pub invariant-loop-i : goal.invariant-loop-i
invariant-loop-i g l = record {
  count : l.picked ≡ count_on (g.T.Picks.picks l.test) l.low l.i l.cells;
  few : l.picked ≤ l.i;
}
