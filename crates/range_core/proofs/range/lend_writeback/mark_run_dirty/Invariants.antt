use Rattle.std.proofs.Common.{◌≡◌, vec_len}
use Rattle.range_core.specs.OnRun.{on_run}
use Rattle.range_core.specs.LendWritebacks.{dirtied_cell}
use Rattle.range_core.proofs.range.lend_writeback.mark_run_dirty.Given as goal

abbrev pub invariant-loop-i : goal.invariant-loop-i
invariant-loop-i l = record {
  cells : l.cells.items ≡ on_run dirtied_cell l.low l.i l.initial.cells.items;
  many : vec_len l.cells ≡ vec_len l.initial.cells;
}
