use Rattle.std.proofs.Common.{◌≡◌, ◌+◌, ◌-◌, drop, length, min}
use Rattle.range_core.specs.Runs.{leading}
use Rattle.range_core.proofs.leading.leading_run.Given as goal

abbrev pub invariant-loop-i : goal.invariant-loop-i
invariant-loop-i g l = record {
  end_is : l.end ≡ min l.most (length l.cells);
  passes : leading (g.T.Joins.joins l.test) 0 l.cells l.most ≡ l.i + leading (g.T.Joins.joins l.test) l.i (drop l.i l.cells) (l.most - l.i);
}
