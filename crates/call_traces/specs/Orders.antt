-- In which order a journal has the stamps of two calls.
use Rattle.std.specs.Prelude.{◌≡◌, ℕ, Bool, false, List, ◌++◌, ◌==◌, IsTrue}
use Rattle.iob_base.specs.declared.stamp.Stamp.{Stamp}
use Rattle.io_model.specs.Lists.{each_pair}
use Rattle.turn_cell.specs.Stakes.{total}
use Rattle.range_core.specs.EntryCounts.{one_where}

-- 1 for a stamp of a call, and how many of them a journal has
abbrev pub is_stamp_of : ℕ → Stamp → ℕ
is_stamp_of n st = one_where (st.call == n)

abbrev pub times_stamped : ℕ → List Stamp → ℕ
times_stamped n journal = total (is_stamp_of n) journal

-- The stamps of the first call all stand before those of the later one
pub record StandsBefore (first later : ℕ) (journal : List Stamp) : Type 0 where
  pub front : List Stamp
  pub back : List Stamp
  pub parts : journal ≡ front ++ back
  pub none_later : times_stamped later front ≡ 0
  pub none_first : times_stamped first back ≡ 0

-- Where each two calls stand the other way round of which one may not stand before the other, a test of calls holds of each stamp beside each later one
abbrev pub OrderIsKept : Type 0
OrderIsKept = (may : ℕ → ℕ → Bool) (journal : List Stamp) → ((n later : ℕ) → may n later ≡ false → StandsBefore later n journal) → IsTrue (each_pair (λ st next. may st.call next.call) journal)

-- A call without a stamp in a journal stands before each other one there, and behind it
abbrev pub AbsentStandsAnywhere : Type 0
AbsentStandsAnywhere = (n other : ℕ) (journal : List Stamp) → times_stamped n journal ≡ 0 → StandsBefore n other journal × StandsBefore other n journal
