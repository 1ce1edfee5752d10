use Rattle.std.proofs.Common.{◌≡◌, ◌≤◌, vec_len}
use Rattle.range_core.specs.DropCleans.{is_droppable, without_clean_page}
use Rattle.range_core.specs.OnRun.{count_on, on_run}
use Rattle.range_core.proofs.range.drop_clean.drop_run.Given as goal

abbrev pub invariant-loop-i : goal.invariant-loop-i
invariant-loop-i l = record {
  cells : l.cells.items ≡ on_run without_clean_page l.low l.i l.initial.cells.items;
  many : vec_len l.cells ≡ vec_len l.initial.cells;
  count : l.dropped ≡ count_on is_droppable l.low l.i l.initial.cells.items;
  few : l.dropped ≤ l.i;
}
