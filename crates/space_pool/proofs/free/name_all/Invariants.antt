use Rattle.std.proofs.Common.{◌≡◌, ℕ, ◌+◌, ◌≤◌, vec_len, vec_capacity}
use Rattle.iob_base.specs.DeviceBlock.{DeviceBlock}
use Rattle.turn_cell.specs.Stakes.{total}
use Rattle.space_pool.proofs.free.name_all.Given as goal

-- the sectors that are left still have room, and together they weigh what they did
abbrev pub invariant-loop-sector : goal.invariant-loop-sector
invariant-loop-sector l = record {
  room : vec_len l.into + vec_len l.sectors ≤ vec_capacity l.into;
  len : vec_len l.into + vec_len l.sectors ≡ vec_len l.initial.into + vec_len l.initial.sectors;
  weighs : (f : DeviceBlock → ℕ) → total f l.into.items + total f l.sectors.items ≡ total f l.initial.into.items + total f l.initial.sectors.items;
  kept : vec_capacity l.sectors ≡ vec_capacity l.initial.sectors;
}

abbrev pub decreases-loop-sector : goal.decreases-loop-sector
decreases-loop-sector l = vec_len l.sectors
