-- What contracts see of a shelf and of its seats.
use Rattle.std.specs.Prelude.{◌≡◌, ℕ, ◌-◌, Bool, true, false, List, [], ◌==◌, if◌then◌else◌, Option, Some, None, replicate, slice_set}
use mathlib.Core.Option.{some}
use lib.ListN.{get_elem?}
use Rattle.atomic_table.specs.Seated.{TableId}
use Rattle.fault_device.specs.declared.lane.Done.{Done}
use Rattle.folio_bits.specs.declared.countdown.Outcome.{Outcome}
use Rattle.folio_bits.specs.declared.countdown.Outcome.TheVariants.{Last, More}
use Rattle.bio_pages.specs.declared.bio.Bio.{Bio}
use Rattle.bio_pages.specs.declared.errand.Errand.{Errand}
use Rattle.bio_pages.specs.declared.errand.Doing.{Doing}
use Rattle.bio_pages.specs.declared.errand.Doing.TheVariants.{Idle, Waiting, Filling, Picking}
use Rattle.bio_pages.specs.declared.errand.Known.{Known}
use Rattle.bio_pages.specs.Running.{IsRun}
use Rattle.bio_pages.specs.ShelfRule.{whole_amount, errand_to}

-- The shelf, the number of the seat there (the owner's is 0), its amount, the errand that it has, the bios that the owner notes for each slot, whether its last look found its own amount, and the word that its last step found
pub record SeatView (T : Type 0) : Type 0 where
  pub shelf : TableId
  pub seat : ℕ
  pub amount : ℕ
  pub errand : Option (Errand T)
  pub notes : List (Option (Bio T))
  pub last : Bool
  pub found : ℕ

module _ {T : Type 0} where
  abbrev pub errand_of : Doing T → Option (Errand T)
  errand_of Idle = None
  errand_of (Waiting e) = Some e
  errand_of (Filling e) = Some e
  errand_of (Picking e) = Some e

  abbrev pub known_view : TableId → ℕ → Known T → SeatView T
  known_view shelf seat v = record { shelf = shelf; seat = seat; amount = v.amount; errand = errand_of v.doing; notes = v.noted; last = v.last; found = v.found }

  -- the owner of a new shelf of so many slots: nothing is noted for any of them
  abbrev pub owner_of : TableId → ℕ → SeatView T
  owner_of shelf slots = record { shelf = shelf; seat = 0; amount = whole_amount; errand = None; notes = replicate slots None; last = false; found = 0 }

  -- the seat that runs an errand
  abbrev pub runner_of : TableId → ℕ → ℕ → Bio T → SeatView T
  runner_of shelf seat slot bio = record { shelf = shelf; seat = seat; amount = 1; errand = Some (errand_to slot bio); notes = []; last = false; found = 0 }

  -- the owner after it gave one of its amount and this errand to another seat
  abbrev pub with_errand : SeatView T → ℕ → Bio T → SeatView T
  with_errand s slot bio = record s { amount = s.amount - 1; notes = slice_set s.notes slot (Some bio); last = false }

  -- the seat after it put its bio back, at the word that it found
  abbrev pub spent : SeatView T → ℕ → SeatView T
  spent s found = record s { amount = 0; errand = None; last = false; found = found }

  -- the seat after a look at this word
  abbrev pub looked : SeatView T → ℕ → SeatView T
  looked s found = record s { last = found == s.amount; found = found }

  -- the seat after looks of which the last found this
  abbrev pub with_look : SeatView T → Bool → ℕ → SeatView T
  with_look s last found = record s { last = last; found = found }

  -- the seat once it has seen Last
  abbrev pub seen_last : SeatView T → SeatView T
  seen_last s = record s { last = true; found = s.amount }

  -- the seat with another amount
  abbrev pub with_amount : SeatView T → ℕ → SeatView T
  with_amount s amount = record s { amount = amount }

  -- the owner after it emptied a slot
  abbrev pub without_note : SeatView T → ℕ → SeatView T
  without_note s slot = record s { notes = slice_set s.notes slot None }

  -- nothing is noted for the slot
  abbrev pub IsFree : SeatView T → ℕ → Type 0
  IsFree s slot = get_elem? s.notes slot ≡ some None

  -- this bio is noted for the slot
  abbrev pub IsNotedFor : SeatView T → ℕ → Bio T → Type 0
  IsNotedFor s slot bio = get_elem? s.notes slot ≡ some (Some bio)

  -- The seat's errand is to this slot, and the bio is the one of the errand, after the transfer that its `Done` tells
  abbrev pub Fulfils : SeatView T → ℕ → Bio T → Done → Type 0
  Fulfils s slot bio done = (before : Bio T) × (s.errand ≡ Some (errand_to slot before)) × IsRun before bio done

-- Last exactly where the word found was this amount
abbrev pub outcome_at : ℕ → ℕ → Outcome
outcome_at amount found = (if found == amount then Last else More)
