use Rattle.std.proofs.Common.{◌≡◌, ◌+◌, ◌-◌, drop, length, min}
use Rattle.range_core.specs.Runs.{run_from}
use Rattle.range_core.proofs.run.run_of.Given as goal

abbrev pub invariant-loop-i : goal.invariant-loop-i
invariant-loop-i l =
    (l.end ≡ min l.most (length l.cells))
    × (run_from l.kind 0 l.cells l.most ≡ l.i + run_from l.kind l.i (drop l.i l.cells) (l.most - l.i))
