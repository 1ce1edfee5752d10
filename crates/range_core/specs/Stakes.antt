-- What the seats at a range claim and have made.
use Rattle.std.specs.Prelude.{◌≡◌, ℕ, ◌+◌, ◌<◌, ◌≤◌, ◌^◌, Bool, false, ◌&&◌, ◌==◌, nat_le, Option, Some, None, List, length, if◌then◌else◌}
use Rattle.turn_cell.specs.Stakes.{Stake, total}
use Rattle.range_core.specs.ClaimsView.{ClaimsView}
use Rattle.range_core.specs.EntryCounts.{made_as, one_where}
use Rattle.range_core.specs.Spots.{in_run}
use Rattle.range_core.specs.declared.entry.Entry.{Entry}
use Rattle.range_core.specs.declared.lending.Held.{Held}

-- what a seat of a range claims, or nothing once it was joined away, and the entries that it made
abbrev pub RangeStake : Type 0
RangeStake = Stake ClaimsView Entry

abbrev pub held_by : Option ClaimsView → Option Held
held_by None = None
held_by (Some c) = c.held

-- a claim names a block
abbrev pub names_block : ℕ → Option Held → Bool
names_block b None = false
names_block b (Some h) = in_run h.lent.value.block (length h.lent.value.parts) b

abbrev pub names : ℕ → RangeStake → ℕ
names b s = one_where (names_block b (held_by s.0))

-- a seat may still hand a caller number on; it is that caller's own seat; it works under that number
abbrev pub spares_number : ℕ → Option ClaimsView → Bool
spares_number caller None = false
spares_number caller (Some c) = nat_le (2 ^ 32) (caller + c.spare)

abbrev pub is_main_of : ℕ → Option ClaimsView → Bool
is_main_of caller None = false
is_main_of caller (Some c) = c.main && c.caller == caller

abbrev pub works_as : ℕ → Option ClaimsView → Bool
works_as caller None = false
works_as caller (Some c) = c.caller == caller

abbrev pub spares : ℕ → RangeStake → ℕ
spares caller s = one_where (spares_number caller s.0)

abbrev pub mains : ℕ → RangeStake → ℕ
mains caller s = one_where (is_main_of caller s.0)

abbrev pub workers : ℕ → RangeStake → ℕ
workers caller s = one_where (works_as caller s.0)

-- how many entries under a number were made by a seat that is not that caller's own
abbrev pub strays : ℕ → RangeStake → ℕ
strays caller s = if is_main_of caller s.0 then 0 else total (made_as caller) s.1

-- a caller number is spare at one seat, or is that of one caller's own seat, or neither; while it is spare, no seat works under it and no entry was made under it; and while it is that of a caller's own seat, no other seat made an entry under it
pub record IsApart (caller : ℕ) (history : List Entry) (stakes : List RangeStake) : Type 0 where
  pub one : total (spares caller) stakes + total (mains caller) stakes ≤ 1
  pub unused : 0 < total (spares caller) stakes → total (workers caller) stakes + total (made_as caller) history ≡ 0
  pub own : 0 < total (mains caller) stakes → total (strays caller) stakes ≡ 0
