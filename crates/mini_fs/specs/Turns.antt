-- What a turn of a pass asks and does.
use Rattle.std.specs.Prelude.{◌≡◌, ℕ, ◌/◌, Some, List, slice_get, slice_set}
use Rattle.turn_cell.specs.Stakes.{Begins}
use Rattle.turn_cell.specs.Views.{CellView, SeatView, Turned, FoundHeld}
use Rattle.range_core.specs.ClaimsView.{ClaimsView, released}
use Rattle.range_core.specs.RangeTruth.{RangeTruth}
use Rattle.range_core.specs.RangeView.{RangeView}
use Rattle.range_core.specs.declared.entry.Entry.{Entry}
use Rattle.mount_parts.specs.MountView.{MountView}
use Rattle.mini_fs.specs.PassView.{PassView}

-- the block that has the byte in this place of a file
abbrev pub block_at : MountView → ℕ → ℕ
block_at m place = place / m.geometry.block_size

-- the pass with another seat at a stripe
abbrev pub with_seat : PassView → ℕ → SeatView Entry → PassView
with_seat p stripe seat = record p { stripes = slice_set p.stripes stripe seat }

-- A cell of the mount and a seat of the pass stand at this stripe
pub record StandAt (m : MountView) (p : PassView) (stripe : ℕ) (cell : CellView RangeView) (seat : SeatView Entry) : Type 0 where
  pub cell_is : slice_get m.stripes stripe ≡ Some cell
  pub seat_is : slice_get p.stripes stripe ≡ Some seat

-- a change is ready for a turn of the pass at this stripe, made with these claims
abbrev pub ReadyAt : (RangeView → List Entry → ClaimsView → Type 0) → MountView → PassView → ℕ → ClaimsView → Type 0
ReadyAt ready m p stripe claims = (cell : CellView RangeView) (seat : SeatView Entry) → StandAt m p stripe cell seat → ready cell.opening seat.seen claims

module _ {C Out : Type 0} (does : C → RangeView → List Entry → RangeView → ClaimsView → C → RangeView → ClaimsView → Out → Entry → Type 0) (change : C) where
  -- whatever the turn finds and answers, the change leaves the claims
  abbrev pub LeavesClaims : Type 0
  LeavesClaims = (opening : RangeView) (history : List Entry) (before after : RangeView) (claims left : ClaimsView) (later : C) (out : Out) (entry : Entry)
      → does change opening history before claims later after left out entry → left ≡ claims

  -- whatever the turn finds and answers, the change leaves the claims but for the loan
  abbrev pub LeavesNumbers : Type 0
  LeavesNumbers = (opening : RangeView) (history : List Entry) (before after : RangeView) (claims left : ClaimsView) (later : C) (out : Out) (entry : Entry)
      → does change opening history before claims later after left out entry → released left ≡ released claims

-- One turn of the pass `p` at a stripe, with these claims before it and after it, which makes it the pass `q`: the seat there sees what others had entered, then the one entry of this turn. The cell, the share, and all other seats, locks and numbers are as before
pub record TurnsAt (does : RangeView → List Entry → RangeView → RangeView → Entry → Type 0) (m : MountView) (stripe : ℕ) (claims left : ClaimsView) (p q : PassView) : Type 0 where
  pub cell : CellView RangeView
  pub before : SeatView Entry
  pub after : SeatView Entry
  pub stand : StandAt m p stripe cell before
  pub pass_is : q ≡ with_seat p stripe after
  pub same_cell : after.cell ≡ before.cell
  pub same_share : after.share ≡ before.share
  pub refused : Begins before.refused after.refused
  pub turned : Turned RangeTruth (does cell.opening) cell.opening claims left before after

-- The gate of a stripe was found held, by this word, and nothing but the seat's note of it is new
pub record BusyAt (stripe word : ℕ) (p q : PassView) : Type 0 where
  pub before : SeatView Entry
  pub after : SeatView Entry
  pub here : slice_get p.stripes stripe ≡ Some before
  pub found : FoundHeld before word after
  pub pass_is : q ≡ with_seat p stripe after
