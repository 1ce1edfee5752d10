use Rattle.std.proofs.Common.{◌≡◌, ℕ, ◌+◌, ◌≤◌, vec_len, vec_capacity}
use Rattle.std.specs.BinaryHeap.{heap_items, heap_len, heap_capacity, KeepsHeap}
use Rattle.iob_base.specs.DeviceBlock.{DeviceBlock}
use Rattle.turn_cell.specs.Stakes.{total}
use Rattle.space_pool.specs.Sectors.{lowest_first}
use Rattle.space_pool.proofs.free.push_all.Given as goal

-- the sectors that are left still have room, and together they weigh what they did
abbrev pub invariant-loop-sector : goal.invariant-loop-sector
invariant-loop-sector l = record {
  room : heap_len l.heap + vec_len l.sectors ≤ heap_capacity l.heap;
  len : heap_len l.heap + vec_len l.sectors ≡ heap_len l.initial.heap + vec_len l.initial.sectors;
  weighs : (f : DeviceBlock → ℕ) → total f (heap_items l.heap) + total f l.sectors.items ≡ total f (heap_items l.initial.heap) + total f l.initial.sectors.items;
  kept : vec_capacity l.sectors ≡ vec_capacity l.initial.sectors;
  grows : heap_capacity l.initial.heap ≤ heap_capacity l.heap;
  ordered : KeepsHeap lowest_first (heap_items l.initial.heap) (heap_items l.heap);
}

abbrev pub decreases-loop-sector : goal.decreases-loop-sector
decreases-loop-sector l = vec_len l.sectors
