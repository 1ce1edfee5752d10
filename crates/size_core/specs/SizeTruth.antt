-- What is true of a size, its history, and what all seats claim, between two turns.
use Rattle.std.specs.Prelude.{◌≡◌, ℕ, ◌+◌, ◌<◌, ◌≤◌, ◌^◌, Bool, true, false, ◌&&◌, ◌==◌, nat_le, Option, Some, None, List, ◌++◌}
use Rattle.turn_cell.specs.Stakes.{Stake, total}
use Rattle.size_core.specs.ClaimsView.{ClaimsView}
use Rattle.size_core.specs.History.{stamps_in, one_where, made_as}
use Rattle.io_model.specs.Sizes.{replayed_size, sees_replayed}
use Rattle.size_core.specs.SizesView.{SizesView}
use Rattle.size_core.specs.declared.entry.SizeEntry.{SizeEntry}

-- what a seat at a size claims, or nothing once it was joined away, and the entries that it made
abbrev pub SizeStake : Type 0
SizeStake = Stake ClaimsView SizeEntry

-- the rooms that a seat has
abbrev pub rooms_of : Option ClaimsView → ℕ
rooms_of None = 0
rooms_of (Some c) = c.rooms

abbrev pub rooms : SizeStake → ℕ
rooms s = rooms_of s.0

-- a seat may still hand a caller number on; it is that caller's own seat; it works under that number
abbrev pub spares_number : ℕ → Option ClaimsView → Bool
spares_number caller None = false
spares_number caller (Some c) = nat_le (2 ^ 32) (caller + c.spare)

abbrev pub is_main_of : ℕ → Option ClaimsView → Bool
is_main_of caller None = false
is_main_of caller (Some c) = c.main && c.caller == caller

abbrev pub works_as : ℕ → Option ClaimsView → Bool
works_as caller None = false
works_as caller (Some c) = c.caller == caller

abbrev pub spares : ℕ → SizeStake → ℕ
spares caller s = one_where (spares_number caller s.0)

abbrev pub mains : ℕ → SizeStake → ℕ
mains caller s = one_where (is_main_of caller s.0)

abbrev pub workers : ℕ → SizeStake → ℕ
workers caller s = one_where (works_as caller s.0)

-- a caller number is spare at one seat, or is that of one caller's own seat, or neither; and while it is spare, no seat works under it and no entry was made under it
pub record IsApart (caller : ℕ) (history : List SizeEntry) (stakes : List SizeStake) : Type 0 where
  pub one : total (spares caller) stakes + total (mains caller) stakes ≤ 1
  pub unused : 0 < total (spares caller) stakes → total (workers caller) stakes + total (made_as caller) history ≡ 0

-- The truth of a size as it was opened and as it is now: the journal is what the history entered, the size is its replay and each look found the replay before it, the size is within the declared end, what is promised to seats is what they have, and caller numbers are apart
pub record SizeTruth (opening now : SizesView) (history : List SizeEntry) (stakes : List SizeStake) : Type 0 where
  pub same_end : now.end ≡ opening.end
  pub within : now.size ≤ now.end
  pub journal_is_history : now.stamps ≡ opening.stamps ++ stamps_in history
  pub size_is_replay : now.size ≡ replayed_size opening.size (stamps_in history)
  pub looks_found_replays : sees_replayed opening.size (stamps_in history) ≡ true
  pub rooms_are_promised : total rooms stakes ≡ now.rooms
  pub callers_are_apart : (caller : ℕ) → caller < 2 ^ 32 → IsApart caller history stakes
