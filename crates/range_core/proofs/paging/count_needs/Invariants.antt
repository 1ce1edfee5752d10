use Rattle.std.proofs.Common.{◌≡◌, ◌≤◌}
use Rattle.range_core.specs.OnRun.{count_on}
use Rattle.range_core.proofs.paging.count_needs.Given as goal

abbrev pub invariant-loop-i : goal.invariant-loop-i
invariant-loop-i g l = record {
  count : l.count ≡ count_on (g.T.Needs.needs l.test) l.low l.i l.cells.items;
  few : l.count ≤ l.i;
}
