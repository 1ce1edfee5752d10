-- What a pass did at a mount, one act after another.
use Rattle.std.specs.Prelude.{◌≡◌, ℕ, ◌+◌, ◌<◌, ◌==◌, if◌then◌else◌, Option, Some, None, List, [], ◌∷◌, ◌++◌, slice_get}
use Rattle.iob_base.specs.declared.stamp.FileId.{FileId}
use Rattle.bio_pages.specs.Queue.{Grew}
use Rattle.inode_lock.specs.Calls.{IsLeft, IsRefused, IsWon}
use Rattle.inode_lock.specs.View.{LockView}
use Rattle.inode_lock.specs.declared.word.Class.{Class}
use Rattle.turn_cell.specs.Stakes.{Begins}
use Rattle.turn_cell.specs.Views.{SeatView, kept_part}
use Rattle.range_core.specs.declared.entry.Entry.{Entry}
use Rattle.size_core.specs.declared.entry.SizeEntry.{SizeEntry}
use Rattle.mini_fs.specs.BioSeats.{HavePlenty, KeepsShelves}
use Rattle.mini_fs.specs.Holds.{with_lock}
use Rattle.mini_fs.specs.PassView.{PassView, SizeSeat, with_bios}
use Rattle.mini_fs.specs.SizeTurns.{with_size}
use Rattle.mini_fs.specs.Tickets.{with_share}
use Rattle.mini_fs.specs.Turns.{BusyAt, with_seat}
use Rattle.mini_fs.specs.declared.begun.Begun.{Begun}

-- An act of a pass: a turn at a stripe or at a size, before which others had made entries there; a try that found the gate of a stripe held; a ticket opened, or closed; a class of a file's lock taken, refused or left, by a seat that was as the first view says and then as the second; a list of so many bios run; a mapping noted, or none; the number of a call
pub data Act : Type 0 where
  Turn : ℕ → List Entry → Entry → Act
  SizeTurn : ℕ → List SizeEntry → SizeEntry → Act
  Busy : ℕ → ℕ → Act
  Open : ℕ → Act
  Close : ℕ → Act
  Take : FileId → Class → LockView → LockView → Act
  Refused : FileId → Class → LockView → LockView → Act
  Leave : FileId → Class → LockView → LockView → Act
  Run : ℕ → Act
  Note : Option Begun → Act
  Number : ℕ → Act

-- A turn of the pass at a stripe: its seat there saw what others had entered since, then the one entry of this turn
pub record HasTurned (stripe : ℕ) (others : List Entry) (own : Entry) (p q : PassView) : Type 0 where
  pub before : SeatView Entry
  pub after : SeatView Entry
  pub here : slice_get p.stripes stripe ≡ Some before
  pub pass_is : q ≡ with_seat p stripe after
  pub cell : after.cell ≡ before.cell
  pub share : after.share ≡ before.share
  pub refused : Begins before.refused after.refused
  pub seen : after.seen ≡ (before.seen ++ others) ++ own ∷ []
  pub made : after.made ≡ before.made ++ own ∷ []

-- the same at a size
pub record HasTurnedSize (cell : ℕ) (others : List SizeEntry) (own : SizeEntry) (p q : PassView) : Type 0 where
  pub before : SizeSeat
  pub after : SizeSeat
  pub here : slice_get p.sizes cell ≡ Some before
  pub pass_is : q ≡ with_size p cell after
  pub same_cell : after.seat.cell ≡ before.seat.cell
  pub share : after.seat.share ≡ before.seat.share
  pub refused : Begins before.seat.refused after.seat.refused
  pub seen : after.seat.seen ≡ (before.seat.seen ++ others) ++ own ∷ []
  pub made : after.seat.made ≡ before.seat.made ++ own ∷ []

-- a share of 1 went out with a ticket
pub record HasOpened (stripe : ℕ) (p q : PassView) : Type 0 where
  pub seat : SeatView Entry
  pub here : slice_get p.stripes stripe ≡ Some seat
  pub more : 1 < seat.share
  pub pass_is : q ≡ with_seat p stripe (kept_part seat 1)

-- the share of a ticket came back
pub record HasClosed (stripe : ℕ) (p q : PassView) : Type 0 where
  pub seat : SeatView Entry
  pub here : slice_get p.stripes stripe ≡ Some seat
  pub pass_is : q ≡ with_seat p stripe (with_share seat 1)

-- the seat at a file's lock went out with a hold of this class
pub record HasTaken (file : FileId) (c : Class) (before after : LockView) (p q : PassView) : Type 0 where
  pub here : slice_get p.locks file.0 ≡ Some (Some before)
  pub granted : IsWon c before after
  pub pass_is : q ≡ with_lock p file None

-- a try for this class was refused, and the seat stayed at home
pub record WasRefused (file : FileId) (c : Class) (before after : LockView) (p q : PassView) : Type 0 where
  pub here : slice_get p.locks file.0 ≡ Some (Some before)
  pub read : ℕ
  pub found : ℕ
  pub refused : IsRefused c before read found after
  pub pass_is : q ≡ with_lock p file (Some after)

-- the class was left, and the seat came home
pub record HasLeft (file : FileId) (c : Class) (before after : LockView) (p q : PassView) : Type 0 where
  pub out : slice_get p.locks file.0 ≡ Some None
  pub left : IsLeft c before after
  pub pass_is : q ≡ with_lock p file (Some after)

-- a list of so many bios was run by way of the pass's shelves and its place at the queue
pub record HasRun (bios : ℕ) (p q : PassView) : Type 0 where
  pub pass_is : q ≡ with_bios p q.bios
  pub shelves : KeepsShelves bios p.bios q.bios
  pub pushed : HavePlenty q.bios.shelves → Grew bios p.bios.queue q.bios.queue

-- what of an act made the first pass the second
abbrev pub Acts : Act → PassView → PassView → Type 0
Acts (Turn stripe others own) p q = HasTurned stripe others own p q
Acts (SizeTurn cell others own) p q = HasTurnedSize cell others own p q
Acts (Busy stripe word) p q = BusyAt stripe word p q
Acts (Open stripe) p q = HasOpened stripe p q
Acts (Close stripe) p q = HasClosed stripe p q
Acts (Take file c before after) p q = HasTaken file c before after p q
Acts (Refused file c before after) p q = WasRefused file c before after p q
Acts (Leave file c before after) p q = HasLeft file c before after p q
Acts (Run bios) p q = HasRun bios p q
Acts (Note begun) p q = q ≡ record p { begun = begun }
Acts (Number call) p q = q ≡ record p { last = call }

-- these acts, one after another, made the first pass the second
abbrev pub Acted : List Act → PassView → PassView → Type 0
Acted [] p q = q ≡ p
Acted (a ∷ acts) p q = (r : PassView) × Acts a p r × Acted acts r q

-- what a pass saw at a stripe in these acts, and which of it are its own entries
abbrev pub seen_in : ℕ → List Act → List Entry
seen_in k [] = []
seen_in k (Turn stripe others own ∷ acts) = (if stripe == k then others ++ own ∷ [] else []) ++ seen_in k acts
seen_in k (_ ∷ acts) = seen_in k acts

abbrev pub made_in : ℕ → List Act → List Entry
made_in k [] = []
made_in k (Turn stripe others own ∷ acts) = (if stripe == k then own ∷ [] else []) ++ made_in k acts
made_in k (_ ∷ acts) = made_in k acts

-- all own entries, in order, whatever stripe they are at
abbrev pub own_entries : List Act → List Entry
own_entries [] = []
own_entries (Turn stripe others own ∷ acts) = own ∷ own_entries acts
own_entries (_ ∷ acts) = own_entries acts

-- how many tickets were opened at a stripe, and how many closed
abbrev pub opened_in : ℕ → List Act → ℕ
opened_in k [] = 0
opened_in k (Open stripe ∷ acts) = (if stripe == k then 1 else 0) + opened_in k acts
opened_in k (_ ∷ acts) = opened_in k acts

abbrev pub closed_in : ℕ → List Act → ℕ
closed_in k [] = 0
closed_in k (Close stripe ∷ acts) = (if stripe == k then 1 else 0) + closed_in k acts
closed_in k (_ ∷ acts) = closed_in k acts

-- What acts made of the seat at a stripe: it saw what stands in them, made what of it is its own, and gave a share of 1 for each open ticket
pub record SeatActed (k : ℕ) (acts : List Act) (before after : SeatView Entry) : Type 0 where
  pub cell : after.cell ≡ before.cell
  pub seen : after.seen ≡ before.seen ++ seen_in k acts
  pub made : after.made ≡ before.made ++ made_in k acts
  pub share : after.share + opened_in k acts ≡ before.share + closed_in k acts
  pub refused : Begins before.refused after.refused

-- the same at a size
abbrev pub size_seen_in : ℕ → List Act → List SizeEntry
size_seen_in k [] = []
size_seen_in k (SizeTurn cell others own ∷ acts) = (if cell == k then others ++ own ∷ [] else []) ++ size_seen_in k acts
size_seen_in k (_ ∷ acts) = size_seen_in k acts

abbrev pub size_made_in : ℕ → List Act → List SizeEntry
size_made_in k [] = []
size_made_in k (SizeTurn cell others own ∷ acts) = (if cell == k then own ∷ [] else []) ++ size_made_in k acts
size_made_in k (_ ∷ acts) = size_made_in k acts

-- What acts made of the seat at a size: it saw what stands in them, and made what of it is its own
pub record SizeActed (k : ℕ) (acts : List Act) (before after : SizeSeat) : Type 0 where
  pub cell : after.seat.cell ≡ before.seat.cell
  pub share : after.seat.share ≡ before.seat.share
  pub seen : after.seat.seen ≡ before.seat.seen ++ size_seen_in k acts
  pub made : after.seat.made ≡ before.seat.made ++ size_made_in k acts
  pub refused : Begins before.seat.refused after.seat.refused

-- the number of the last call that was given one
abbrev pub last_in : ℕ → List Act → ℕ
last_in last [] = last
last_in last (Number call ∷ acts) = last_in call acts
last_in last (_ ∷ acts) = last_in last acts

-- how many bios were run
abbrev pub bios_in : List Act → ℕ
bios_in [] = 0
bios_in (Run bios ∷ acts) = bios + bios_in acts
bios_in (_ ∷ acts) = bios_in acts

-- where the seat at a file's lock is after acts at this and other locks: out with a hold, or at home
abbrev pub lock_after : ℕ → Option LockView → List Act → Option LockView
lock_after f place [] = place
lock_after f place (Take file c before after ∷ acts) = lock_after f (if file.0 == f then None else place) acts
lock_after f place (Refused file c before after ∷ acts) = lock_after f (if file.0 == f then Some after else place) acts
lock_after f place (Leave file c before after ∷ acts) = lock_after f (if file.0 == f then Some after else place) acts
lock_after f place (_ ∷ acts) = lock_after f place acts

-- What acts made of a pass but for its seats: its caller number and its spare numbers stay, its last call is the last that was given a number, its shelves are the same with at most as much less as bios were run, and where they all have plenty left, the pass pushed as many bios or found the queue full
pub record PassActed (acts : List Act) (p q : PassView) : Type 0 where
  pub caller : q.caller ≡ p.caller
  pub spare : q.spare ≡ p.spare
  pub last : q.last ≡ last_in p.last acts
  pub shelves : KeepsShelves (bios_in acts) p.bios q.bios
  pub pushed : HavePlenty q.bios.shelves → Grew (bios_in acts) p.bios.queue q.bios.queue
