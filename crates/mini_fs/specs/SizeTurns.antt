-- What a turn of a pass at the size of a file asks and does.
use Rattle.std.specs.Prelude.{◌≡◌, ℕ, true, is_some, Option, Some, None, List, slice_get, slice_set}
use Rattle.iob_base.specs.declared.stamp.FileId.{FileId}
use Rattle.turn_cell.specs.Stakes.{Begins}
use Rattle.turn_cell.specs.Views.{CellView, Turned}
use Rattle.size_core.specs.ClaimsView.{ClaimsView}
use Rattle.size_core.specs.SizeTruth.{SizeTruth}
use Rattle.size_core.specs.SizesView.{SizesView}
use Rattle.size_core.specs.declared.entry.SizeEntry.{SizeEntry}
use Rattle.mount_parts.specs.MountView.{MountView, file_at}
use Rattle.mini_fs.specs.PassView.{PassView, SizeSeat, size_claims}

-- the file has a size
abbrev pub HasSize : MountView → FileId → Type 0
HasSize m file = is_some (file_at m file).size ≡ true

abbrev pub cell_in : Option ℕ → ℕ
cell_in None = 0
cell_in (Some cell) = cell

-- the size cell of a file that has a size
abbrev pub size_at : MountView → FileId → ℕ
size_at m file = cell_in (file_at m file).size

-- A size cell of the mount and a seat of the pass stand in this place
pub record StandAtSize (m : MountView) (p : PassView) (at : ℕ) (cell : CellView SizesView) (seat : SizeSeat) : Type 0 where
  pub cell_is : slice_get m.sizes at ≡ Some cell
  pub seat_is : slice_get p.sizes at ≡ Some seat

-- a change is ready for a turn of the pass at this size cell
abbrev pub ReadyAtSize : (SizesView → List SizeEntry → ClaimsView → Type 0) → MountView → PassView → ℕ → Type 0
ReadyAtSize ready m p at = (cell : CellView SizesView) (seat : SizeSeat) → StandAtSize m p at cell seat → ready cell.opening seat.seat.seen (size_claims p.caller p.spare seat.rooms)

-- claims apart from the rooms
abbrev pub without_rooms : ClaimsView → ClaimsView
without_rooms c = record c { rooms = 0 }

module _ {C Out : Type 0} (does : C → SizesView → List SizeEntry → SizesView → ClaimsView → C → SizesView → ClaimsView → Out → SizeEntry → Type 0) (change : C) where
  -- whatever the turn finds and answers, the change leaves the claims but for the rooms
  abbrev pub LeavesSizeNumbers : Type 0
  LeavesSizeNumbers = (opening : SizesView) (history : List SizeEntry) (before after : SizesView) (claims left : ClaimsView) (later : C) (out : Out) (entry : SizeEntry)
      → does change opening history before claims later after left out entry → without_rooms left ≡ without_rooms claims

-- the pass with another seat at a size
abbrev pub with_size : PassView → ℕ → SizeSeat → PassView
with_size p at seat = record p { sizes = slice_set p.sizes at seat }

-- One turn of the pass `p` at a size cell, which makes it the pass `q`. The cell, the share, and all other seats, locks and numbers are as before
pub record TurnsAtSize (does : SizesView → List SizeEntry → SizesView → ClaimsView → SizesView → ClaimsView → SizeEntry → Type 0) (m : MountView) (at : ℕ) (p q : PassView) : Type 0 where
  pub cell : CellView SizesView
  pub before : SizeSeat
  pub after : SizeSeat
  pub stand : StandAtSize m p at cell before
  pub pass_is : q ≡ with_size p at after
  pub same_cell : after.seat.cell ≡ before.seat.cell
  pub same_share : after.seat.share ≡ before.seat.share
  pub refused : Begins before.seat.refused after.seat.refused
  pub turned : Turned SizeTruth (λ history value next entry. does cell.opening history value (size_claims p.caller p.spare before.rooms) next (size_claims p.caller p.spare after.rooms) entry) cell.opening (size_claims p.caller p.spare before.rooms) (size_claims p.caller p.spare after.rooms) before.seat after.seat
