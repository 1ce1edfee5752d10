-- What contracts see of a pass: a caller's seats at all cells and locks of a mount.
use Rattle.std.specs.Prelude.{◌≡◌, ℕ, true, Option, Some, None, List, [], map, slice_get, length}
use Rattle.atomic_table.specs.Seated.{TableId}
use Rattle.inode_lock.specs.View.{LockView}
use Rattle.turn_cell.specs.Views.{SeatView}
use Rattle.range_core.specs.ClaimsView.{ClaimsView}
use Rattle.range_core.specs.declared.entry.Entry.{Entry}
use Rattle.size_core.specs.ClaimsView as size
use Rattle.size_core.specs.declared.entry.SizeEntry.{SizeEntry}
use Rattle.mount_parts.specs.MountView.{MountView}
use Rattle.mini_fs.specs.BioSeats.{BioSeatsView}
use Rattle.mini_fs.specs.declared.begun.Begun.{Begun}

-- a seat at a size cell, and for how many entries it has room there
pub record SizeSeat : Type 0 where
  pub seat : SeatView SizeEntry
  pub rooms : ℕ

-- the seats at the stripes, at the sizes and at the locks, which is out while the pass holds a class of the file; the caller number, how many numbers it may hand on, the number of the last call, the mapping that it began and has not ended, with its sample, and its seats at the shelves with its pass at the queue of bios
pub record PassView : Type 0 where
  pub stripes : List (SeatView Entry)
  pub sizes : List SizeSeat
  pub locks : List (Option LockView)
  pub caller : ℕ
  pub spare : ℕ
  pub last : ℕ
  pub begun : Option Begun
  pub bios : BioSeatsView

abbrev pub pass_view : List (SeatView Entry) → List SizeSeat → List (Option LockView) → ℕ → ℕ → ℕ → Option Begun → BioSeatsView → PassView
pass_view stripes sizes locks caller spare last begun bios = record { stripes = stripes; sizes = sizes; locks = locks; caller = caller; spare = spare; last = last; begun = begun; bios = bios }

abbrev pub size_seat : SeatView SizeEntry → size.ClaimsView → SizeSeat
size_seat seat claims = record { seat = seat; rooms = claims.rooms }

-- what the pass's own seats claim at a range: nothing but its numbers
abbrev pub own_claims : ℕ → ℕ → ClaimsView
own_claims caller spare = record { caller = caller; spare = spare; main = true; held = None }

abbrev pub claims_of : PassView → ClaimsView
claims_of p = own_claims p.caller p.spare

-- what it claims at a size: its numbers, and so many rooms
abbrev pub size_claims : ℕ → ℕ → ℕ → size.ClaimsView
size_claims caller spare rooms = record { caller = caller; spare = spare; main = true; rooms = rooms }

abbrev pub IsSizeSeat : ℕ → ℕ → size.ClaimsView → Type 0
IsSizeSeat caller spare claims = claims ≡ size_claims caller spare claims.rooms

-- each lock seat that is at home is of its lock
abbrev pub AreAtLocks : List TableId → List (Option LockView) → Type 0
AreAtLocks ids seats = (length seats ≡ length ids) × ((f : ℕ) (id : TableId) (seat : LockView) → slice_get ids f ≡ Some id → slice_get seats f ≡ Some (Some seat) → seat.lock ≡ id)

-- The pass is of this mount: its seats are at the mount's cells and locks, one by one, and it passes bios through the mount's queue
pub record IsPassOf (m : MountView) (p : PassView) : Type 0 where
  pub stripes : map (λ s. s.cell) p.stripes ≡ map (λ c. c.cell) m.stripes
  pub sizes : map (λ s. s.seat.cell) p.sizes ≡ map (λ c. c.cell) m.sizes
  pub locks : AreAtLocks m.locks p.locks
  pub queue : p.bios.queue.queue ≡ m.queue.queue

-- the share of a pass at a stripe
abbrev pub share_in : Option (SeatView Entry) → ℕ
share_in None = 0
share_in (Some seat) = seat.share

abbrev pub share_at : PassView → ℕ → ℕ
share_at p stripe = share_in (slice_get p.stripes stripe)

-- the pass with other seats at shelves, and another pass at the queue of bios
abbrev pub with_bios : PassView → BioSeatsView → PassView
with_bios p bios = record p { bios = bios }

-- the words that the seat at a stripe found at a held gate
abbrev pub refused_in : Option (SeatView Entry) → List (ℕ × ℕ)
refused_in None = []
refused_in (Some seat) = seat.refused

abbrev pub refused_at : PassView → ℕ → List (ℕ × ℕ)
refused_at p stripe = refused_in (slice_get p.stripes stripe)
