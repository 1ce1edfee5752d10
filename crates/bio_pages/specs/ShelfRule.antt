-- The rule of a shelf's table: what holds between any two steps.
use Rattle.std.specs.Prelude.{◌≡◌, ◌≢◌, ℕ, ◌+◌, ◌^◌, ◌≤◌, true, List, [], ◌∷◌, length, Option, Some, None, ◌==◌, if◌then◌else◌, ⊤}
use mathlib.Core.Option.{some, none}
use lib.ListN.{get_elem?}
use Rattle.atomic_table.specs.Table.{State}
use Rattle.fault_device.specs.declared.lane.Done.{Done}
use Rattle.turn_cell.specs.Stakes.{total}
use Rattle.bio_pages.specs.declared.bio.Bio.{Bio}
use Rattle.bio_pages.specs.declared.errand.Errand.{Errand}
use Rattle.bio_pages.specs.declared.errand.Doing.{Doing}
use Rattle.bio_pages.specs.declared.errand.Doing.TheVariants.{Idle, Waiting, Filling, Picking}
use Rattle.bio_pages.specs.declared.errand.Known.{Known}
use Rattle.bio_pages.specs.Running.{IsRun}

-- what the owner of a shelf begins with
abbrev pub whole_amount : ℕ
whole_amount = 2 ^ 63

module _ {T : Type 0} where
  abbrev pub errand_to : ℕ → Bio T → Errand T
  errand_to slot bio = record { slot = slot; bio = bio }

  abbrev pub amount_of : Known T → ℕ
  amount_of v = v.amount

  -- 1 where the errand is to this slot
  abbrev pub at_slot : ℕ → Errand T → ℕ
  at_slot k e = (if e.slot == k then 1 else 0)

  -- 1 for a seat that waits for the bio of this slot
  abbrev pub waits : ℕ → Doing T → ℕ
  waits k Idle = 0
  waits k (Waiting e) = at_slot k e
  waits k (Filling e) = 0
  waits k (Picking e) = 0

  -- 1 for a seat that has this slot, to fill or to empty it
  abbrev pub moves : ℕ → Doing T → ℕ
  moves k Idle = 0
  moves k (Waiting e) = 0
  moves k (Filling e) = at_slot k e
  moves k (Picking e) = at_slot k e

  abbrev pub waiting_at : ℕ → Known T → ℕ
  waiting_at k v = waits k v.doing

  abbrev pub moving_at : ℕ → Known T → ℕ
  moving_at k v = moves k v.doing

  -- 1 for a slot that is noted
  abbrev pub noted : Option (Bio T) → ℕ
  noted None = 0
  noted (Some b) = 1

  -- 1 for a slot that is out with a seat
  abbrev pub away : mathlib.Core.Option.Option (Option (Bio T × Done)) → ℕ
  away none = 1
  away (some x) = 0

  -- 1 for a slot with a bio
  abbrev pub full : mathlib.Core.Option.Option (Option (Bio T × Done)) → ℕ
  full none = 0
  full (some None) = 0
  full (some (Some p)) = 1

  -- the bio in a slot is the one that is noted for it, after the transfer that its `Done` tells
  abbrev pub HasItsBio : Option (Bio T) → mathlib.Core.Option.Option (Option (Bio T × Done)) → Type 0
  HasItsBio (Some b) (some (Some p)) = IsRun b p.0 p.1
  HasItsBio bio home = ⊤

  -- an errand counts one, is not the owner's, and is noted by the owner; the owner alone empties slots
  abbrev pub Follows : List (Option (Bio T)) → ℕ → ℕ → Doing T → Type 0
  Follows notes number amount Idle = ⊤
  Follows notes number amount (Waiting e) = (amount ≡ 1) × (number ≢ 0) × (get_elem? notes e.slot ≡ some (Some e.bio))
  Follows notes number amount (Filling e) = (amount ≡ 1) × (number ≢ 0) × (get_elem? notes e.slot ≡ some (Some e.bio))
  Follows notes number amount (Picking e) = (number ≡ 0) × (get_elem? notes e.slot ≡ some (Some e.bio))

-- What the rule says of one seat: the first is the owner, whose notes they are; and where its last look found its own amount, nobody else has any
pub record FitsSeat {T : Type 0} (notes : List (Option (Bio T))) (whole number : ℕ) (v : Known T) : Type 0 where
  pub owner : number ≡ 0 → v.noted ≡ notes
  pub last : v.last ≡ true → whole ≡ v.amount
  pub follows : Follows notes number v.amount v.doing

-- What the rule says of one slot: where it is noted, one seat waits for its bio, or one seat has it, or it is full, and where it is not noted none of these; it is out while a seat has it
pub record FitsSlot {T : Type 0} (views : List (Known T)) (k : ℕ) (note : Option (Bio T)) (home : mathlib.Core.Option.Option (Option (Bio T × Done))) : Type 0 where
  pub counted : (total (waiting_at k) views + total (moving_at k) views) + full home ≡ noted note
  pub out : away home ≡ total (moving_at k) views
  pub bio : HasItsBio note home

-- The word is what all seats have together, and the rule holds of each seat and of each slot
pub record Shelved {T : Type 0} (s : State (Option (Bio T × Done)) (Known T)) : Type 0 where
  pub notes : List (Option (Bio T))
  pub word : s.words ≡ total amount_of s.views ∷ []
  pub small : total amount_of s.views ≤ whole_amount
  pub sized : length notes ≡ length s.homes
  pub seats : (number : ℕ) (v : Known T) → get_elem? s.views number ≡ some v → FitsSeat notes (total amount_of s.views) number v
  pub slots : (k : ℕ) (note : Option (Bio T)) (home : mathlib.Core.Option.Option (Option (Bio T × Done))) → get_elem? notes k ≡ some note → get_elem? s.homes k ≡ some home → FitsSlot s.views k note home
