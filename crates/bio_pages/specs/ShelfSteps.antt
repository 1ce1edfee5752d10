-- What a seat of a shelf knows after each step, and what a step tells.
use Rattle.std.specs.Prelude.{◌≡◌, ℕ, ◌-◌, false, [], ◌∷◌, ◌==◌, Option, Some, None, replicate, slice_set, ⊤}
use mathlib.Core.Option.{some}
use lib.ListN.{get_elem?}
use Rattle.atomic_table.specs.Table.{Me, rest}
use Rattle.fault_device.specs.declared.lane.Done.{Done}
use Rattle.bio_pages.specs.declared.bio.Bio.{Bio}
use Rattle.bio_pages.specs.declared.errand.Errand.{Errand}
use Rattle.bio_pages.specs.declared.errand.Doing.{Doing}
use Rattle.bio_pages.specs.declared.errand.Doing.TheVariants.{Idle, Waiting, Filling, Picking}
use Rattle.bio_pages.specs.declared.errand.Known.{Known}
use Rattle.bio_pages.specs.Running.{IsRun}
use Rattle.bio_pages.specs.ShelfRule.{whole_amount, errand_to}

module _ {T : Type 0} where
  -- the owner of a shelf of so many slots, at its start
  abbrev pub first_known : ℕ → Known T
  first_known slots = record { amount = whole_amount; doing = Idle; noted = replicate slots None; last = false; found = 0 }

  -- the owner after it gave an errand away
  abbrev pub lender : Option (Errand T) → Known T → Known T
  lender None v = v
  lender (Some e) v = record v { amount = v.amount - 1; noted = slice_set v.noted e.slot (Some e.bio); last = false }

  -- the seat that a split makes
  abbrev pub sent_out : Option (Errand T) → Known T
  sent_out None = record { amount = 0; doing = Idle; noted = []; last = false; found = 0 }
  sent_out (Some e) = record { amount = 1; doing = Waiting e; noted = []; last = false; found = 0 }

  -- after it took its slot, to fill it
  abbrev pub filling : Errand T → Known T → Known T
  filling e v = record v { doing = Filling e }

  -- after it counted down at this word
  abbrev pub counted_down : ℕ → Known T → Known T
  counted_down found v = record v { amount = 0; doing = Idle; last = false; found = found }

  -- after it looked at this word
  abbrev pub looked_at : ℕ → Known T → Known T
  looked_at found v = record v { last = found == v.amount; found = found }

  -- after the owner took a slot, to empty it
  abbrev pub picking : Errand T → Known T → Known T
  picking e v = record v { doing = Picking e }

  -- after the owner emptied the slot
  abbrev pub emptied : ℕ → Known T → Known T
  emptied slot v = record v { doing = Idle; noted = slice_set v.noted slot None }

  -- a seat between two calls: it has no slot
  abbrev pub IsAtRest : Doing T → Type 0
  IsAtRest Idle = ⊤
  IsAtRest (Waiting e) = ⊤
  IsAtRest (Filling e) = ⊥
  IsAtRest (Picking e) = ⊥

-- The owner has the slot, with the bio that it noted for it, after the transfer that its `Done` tells
pub record Picked {T : Type 0} (e : Errand T) (v : Known T) (me : Me (Option (Bio T × Done)) (Known T)) : Type 0 where
  pub bio : Bio T
  pub done : Done
  pub run : IsRun e.bio bio done
  pub idle : v.doing ≡ Idle
  pub me_is : me ≡ (picking e v, (e.slot, Some (bio, done)) ∷ [])

module _ {T : Type 0} where
  -- this bio is noted for the slot
  abbrev pub IsNotedAt : Known T → ℕ → Bio T → Type 0
  IsNotedAt v slot bio = get_elem? v.noted slot ≡ some (Some bio)

  -- a seat that waited has the slot of its errand, which is empty
  abbrev pub IsTaken : Me (Option (Bio T × Done)) (Known T) → Me (Option (Bio T × Done)) (Known T) → Type 0
  IsTaken before after = (e : Errand T) → before.0.doing ≡ Waiting e → after ≡ (filling e before.0, (e.slot, None) ∷ before.1)

  -- it has counted down at the word that was found, and given its slot back
  abbrev pub IsCounted : Me (Option (Bio T × Done)) (Known T) → ℕ → Me (Option (Bio T × Done)) (Known T) → Type 0
  IsCounted before found after = after ≡ (counted_down found before.0, rest before.1)

  -- it has looked at the word that was found
  abbrev pub IsLooked : Me (Option (Bio T × Done)) (Known T) → ℕ → Me (Option (Bio T × Done)) (Known T) → Type 0
  IsLooked before found after = after ≡ (looked_at found before.0, before.1)

  -- the owner has this slot, with what came back to it
  abbrev pub IsPicked : ℕ → Me (Option (Bio T × Done)) (Known T) → Me (Option (Bio T × Done)) (Known T) → Type 0
  IsPicked slot before after = (bio : Bio T) → IsNotedAt before.0 slot bio → Picked (errand_to slot bio) before.0 after

  -- the owner has given back the slot that it emptied
  abbrev pub IsCleared : Me (Option (Bio T × Done)) (Known T) → Me (Option (Bio T × Done)) (Known T) → Type 0
  IsCleared before after = (e : Errand T) → before.0.doing ≡ Picking e → after ≡ (emptied e.slot before.0, rest before.1)
