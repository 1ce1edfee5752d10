-- What becomes of a list of bios that is run by way of a queue and a shelf.
use Rattle.std.specs.Prelude.{◌≡◌, ◌⊎◌, ℕ, ◌+◌, ◌<◌, ◌≤◌, true, List, [], ◌∷◌, ◌++◌, All, length, ⊤}
use mathlib.Core.Option.{some}
use lib.ListN.{get_elem?}
use Rattle.fault_device.specs.Transfer.{CanTransfer}
use Rattle.fault_device.specs.declared.lane.Done.{Done}
use Rattle.bio_pages.specs.declared.bio.Bio.{Bio}
use Rattle.bio_pages.specs.Queue.{PassView, Grew}
use Rattle.bio_pages.specs.Running.{IsRun}
use Rattle.bio_pages.specs.Shelf.{SeatView, IsFree, IsNotedFor}

module _ {T : Type 0} where
  -- each bio can be run, and its slot is its place in the list
  abbrev pub CanSend : List (Bio T) → Type 0
  CanSend all = (place : ℕ) (b : Bio T) → get_elem? all place ≡ some b → (b.slot ≡ place) × CanTransfer b.parts

  -- each bio can be run
  abbrev pub CanRun : List (Bio T) → Type 0
  CanRun all = (place : ℕ) (b : Bio T) → get_elem? all place ≡ some b → CanTransfer b.parts

  -- the owner has notes for none of the slots below this one, which are there
  abbrev pub AreFree : ℕ → SeatView T → Type 0
  AreFree slots owner = (slot : ℕ) → slot < slots → IsFree owner slot

  -- the bios in their order, each after the transfer that its `Done` tells
  abbrev pub AreRun : List (Bio T) → List (Bio T) → List Done → Type 0
  AreRun [] [] [] = ⊤
  AreRun (b ∷ bs) (r ∷ rs) (d ∷ ds) = IsRun b r d × AreRun bs rs ds
  AreRun bs rs ds = ⊥

-- a failed transfer is of this lane, whose count was at most its `before` then and is at least its `after` now
abbrev pub IsOwn : ℕ → ℕ → ℕ → Done → Type 0
IsOwn number then now d = d.failed ≡ true → (d.lane ≡ number) × (then ≤ d.before) × (d.after ≤ now)

-- two failed transfers share no rise of the count
abbrev pub IsApart : Done → Done → Type 0
IsApart d e = d.failed ≡ true → e.failed ≡ true → (d.after ≤ e.before) ⊎ (e.after ≤ d.before)

abbrev pub AreApart : List Done → Type 0
AreApart [] = ⊤
AreApart (d ∷ ds) = All (IsApart d) ds × AreApart ds

-- The failed transfers are of this lane, within its counts then and now, and no two share a rise
pub record OwnFailures (number then now : ℕ) (dones : List Done) : Type 0 where
  pub own : All (IsOwn number then now) dones
  pub apart : AreApart dones

-- So many bios are out, which can be run, and the owner notes each for the slot of its place in the list
pub record AreOut {T : Type 0} (sent : ℕ) (all : List (Bio T)) (owner : SeatView T) : Type 0 where
  pub count : length all ≡ sent
  pub can_send : CanSend all
  pub noted : (place : ℕ) (b : Bio T) → get_elem? all place ≡ some b → IsNotedFor owner place b

-- The owner gave so much of its amount away, and notes as many bios of the front of a list, each for the slot of its place; all else is as it was
pub record Lent {T : Type 0} (sent : ℕ) (all : List (Bio T)) (old new : SeatView T) : Type 0 where
  pub shelf : new.shelf ≡ old.shelf
  pub seat : new.seat ≡ old.seat
  pub errand : new.errand ≡ old.errand
  pub fell : old.amount ≡ new.amount + sent
  pub noted : (place : ℕ) (b : Bio T) → place < sent → get_elem? all place ≡ some b → IsNotedFor new place b
  pub others : (slot : ℕ) → sent ≤ slot → get_elem? new.notes slot ≡ get_elem? old.notes slot

-- The owner emptied as many slots, and nothing is noted for them; all else is as it was
pub record Emptied {T : Type 0} (sent : ℕ) (old new : SeatView T) : Type 0 where
  pub seat : new ≡ record old { notes = new.notes }
  pub free : (slot : ℕ) → slot < sent → IsFree new slot
  pub others : (slot : ℕ) → sent ≤ slot → get_elem? new.notes slot ≡ get_elem? old.notes slot

-- Some bios were taken off the front of a list, run, and put behind those that are left, and what their transfers did behind what was told before
pub record Turned {T : Type 0} (taken left new : List (Bio T)) (before after : List Done) : Type 0 where
  pub run : List (Bio T)
  pub told : List Done
  pub bios : new ≡ left ++ run
  pub dones : after ≡ before ++ told
  pub are_run : AreRun taken run told

-- Some of so many bios were sent out: all of them where the owner has more than 32 left; each took one of its amount, and was pushed, or the queue was found full
pub record SentOut {T : Type 0} (bios : ℕ) (owner owner' : SeatView T) (pass pass' : PassView T) : Type 0 where
  pub sent : ℕ
  pub most : sent ≤ bios
  pub fell : owner.amount ≡ owner'.amount + sent
  pub grew : Grew sent pass pass'
  pub whole : 32 < owner'.amount → sent ≡ bios
