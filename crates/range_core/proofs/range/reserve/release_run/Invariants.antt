use Rattle.std.proofs.Common.{◌≡◌, vec_len}
use Rattle.range_core.specs.OnRun.{on_run}
use Rattle.range_core.specs.Reserves.{unpromised}
use Rattle.range_core.proofs.range.reserve.release_run.Given as goal

abbrev pub invariant-loop-i : goal.invariant-loop-i
invariant-loop-i l = record {
  cells : l.cells.items ≡ on_run unpromised l.low l.i l.initial.cells.items;
  many : vec_len l.cells ≡ vec_len l.initial.cells;
}
