use Rattle.std.proofs.Common.{◌≡◌, vec_len}
use Rattle.range_core.specs.Lends.{written_cell}
use Rattle.range_core.specs.OnRun.{on_run}
use Rattle.range_core.proofs.lend.mark_run_written.Given as goal

abbrev pub invariant-loop-i : goal.invariant-loop-i
invariant-loop-i l = record {
  cells : l.cells.items ≡ on_run written_cell l.low l.i l.initial.cells.items;
  many : vec_len l.cells ≡ vec_len l.initial.cells;
}
