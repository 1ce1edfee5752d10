use Rattle.std.proofs.Common.{◌≡◌, ◌-◌, vec_len}
use Rattle.range_core.specs.OnRun.{on_each}
use Rattle.range_core.specs.StoreZeros.{laid_zeros}
use Rattle.range_core.proofs.range.store_zeros.clear_run.Given as goal

abbrev pub invariant-loop-k : goal.invariant-loop-k
invariant-loop-k l = record {
  cells : l.cells.items ≡ on_each (laid_zeros l.run) 0 (l.run.first - l.first) l.k l.initial.cells.items;
  many : vec_len l.cells ≡ vec_len l.initial.cells;
}
