use Rattle.std.proofs.Common.{◌≡◌, ◌+◌, vec_len, vec_capacity}
use Rattle.std.specs.BinaryHeap.{heap_items, heap_len, heap_capacity, IsHeap}
use Rattle.space_pool.specs.Sectors.{lowest_first, TakesLowest}
use Rattle.space_pool.proofs.free.pop_lowest.Given as goal

-- so many were taken as the counter says
abbrev pub invariant-loop : goal.invariant-loop
invariant-loop l = record {
  taken : TakesLowest l.counter (heap_items l.initial.heap) l.initial.into.items (heap_items l.heap) l.into.items;
  len : heap_len l.heap + l.counter ≡ heap_len l.initial.heap;
  into : vec_len l.into ≡ vec_len l.initial.into + l.counter;
  capacity : heap_capacity l.heap ≡ heap_capacity l.initial.heap;
  kept : vec_capacity l.into ≡ vec_capacity l.initial.into;
  ordered : IsHeap lowest_first (heap_items l.heap);
}
