-- What contracts see of a seat, and what the calls of a countdown do to it.
use Rattle.std.specs.Prelude.{◌≡◌, ℕ, ◌≤◌, Option, Some, None, ◌==◌, if◌then◌else◌}
use Rattle.atomic_table.specs.Seated.{TableId}
use Rattle.folio_bits.specs.declared.rule.Spent.{Spent}
use Rattle.folio_bits.specs.declared.countdown.Outcome.{Outcome}
use Rattle.folio_bits.specs.declared.countdown.Outcome.TheVariants.{Last, More}

-- the countdown, the number of the seat there, and the amount that it has
pub record CountView : Type 0 where
  pub countdown : TableId
  pub seat : ℕ
  pub amount : ℕ

-- the countdown, the number of the seat there, the amount that it had, and the word that its one step found
pub record SpentView : Type 0 where
  pub countdown : TableId
  pub seat : ℕ
  pub had : ℕ
  pub found : ℕ

abbrev pub spent_view : TableId → ℕ → Option Spent → SpentView
spent_view countdown seat None = record { countdown = countdown; seat = seat; had = 0; found = 0 }
spent_view countdown seat (Some e) = record { countdown = countdown; seat = seat; had = e.had; found = e.found }

-- the first seat, with all that is to be counted
abbrev pub whole : TableId → ℕ → CountView
whole countdown total = record { countdown = countdown; seat = 0; amount = total }

-- the seat's amount was taken from the word that it found
pub record IsSpent (before : CountView) (after : SpentView) : Type 0 where
  pub countdown : after.countdown ≡ before.countdown
  pub seat : after.seat ≡ before.seat
  pub had : after.had ≡ before.amount
  pub enough : before.amount ≤ after.found

-- Last exactly where the word was the seat's amount
abbrev pub outcome_of : SpentView → Outcome
outcome_of s = (if s.found == s.had then Last else More)
