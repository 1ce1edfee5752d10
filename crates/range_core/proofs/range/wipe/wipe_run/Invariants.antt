use Rattle.std.proofs.Common.{◌≡◌, ◌≤◌, drop, take, vec_capacity, vec_len}
use Rattle.range_core.specs.OnRun.{on_run}
use Rattle.range_core.specs.Wipes.{sectors_of, wiped}
use Rattle.range_core.proofs.range.wipe.wipe_run.Given as goal

abbrev pub invariant-loop-i : goal.invariant-loop-i
invariant-loop-i l = record {
  cells : l.cells.items ≡ on_run wiped l.low l.i l.initial.cells.items;
  many : vec_len l.cells ≡ vec_len l.initial.cells;
  sectors : l.sectors.items ≡ sectors_of (take l.i (drop l.low l.initial.cells.items));
  few : vec_len l.sectors ≤ l.i;
  capacity : vec_capacity l.sectors ≡ vec_capacity l.initial.sectors;
}
