use Rattle.std.proofs.Common.{◌≡◌, ◌+◌, ◌-◌, All, vec_len}
use Rattle.range_core.specs.OnRun.{count_on, on_each}
use Rattle.range_core.specs.Pages.{IsCachePage}
use Rattle.range_core.specs.Paging.{lacks_page}
use Rattle.range_core.specs.Stores.{next_bytes, past, stored}
use Rattle.range_core.proofs.ByteRunLemmas.{begun}
use Rattle.range_core.proofs.range.store.store_run.Given as goal

abbrev pub invariant-loop-k : goal.invariant-loop-k
invariant-loop-k l = record {
  cells : l.cells.items ≡ on_each (stored l.run (next_bytes l.initial.iov (l.run.to - l.run.from))) 0 (l.run.first - l.first) l.k l.initial.cells.items;
  many : vec_len l.cells ≡ vec_len l.initial.cells;
  left : vec_len l.stock + count_on lacks_page (l.run.first - l.first) l.k l.initial.cells.items ≡ vec_len l.initial.stock;
  kept : All (IsCachePage l.run.size) l.stock.items;
  iov : l.iov ≡ past l.initial.iov (begun l.run l.k);
}
