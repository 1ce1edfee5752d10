-- A pass whose seat at one size changed.
use Rattle.std.proofs.Common.{◌≡◌, ℕ, List, length, map, set, get_or, Some, Option, refl, ap, ◌∙◌, subst, arith}
use Rattle.std.specs.Prelude.{slice_get}
use Rattle.std.proofs.lemmas.List.{map-set, length-map}
use Rattle.std.proofs.lemmas.Option.{slice_get_read}
use Rattle.turn_cell.specs.Views.{CellView, SeatView, Turned}
use Rattle.inode_lock.specs.View.{LockView}
use Rattle.range_core.specs.declared.entry.Entry.{Entry}
use Rattle.size_core.specs.ClaimsView.{ClaimsView}
use Rattle.size_core.specs.SizeTruth.{SizeTruth}
use Rattle.size_core.specs.SizesView.{SizesView}
use Rattle.size_core.specs.declared.entry.SizeEntry.{SizeEntry}
use Rattle.mount_parts.specs.MountView.{MountView}
use Rattle.mini_fs.specs.BioSeats.{BioSeatsView}
use Rattle.mini_fs.specs.declared.begun.Begun.{Begun}
use Rattle.mini_fs.specs.PassView.{PassView, SizeSeat, IsPassOf, IsSizeSeat, pass_view}
use Rattle.mini_fs.specs.SizeTurns.{StandAtSize, with_size, without_rooms}
use Rattle.mini_fs.specs.Tickets.{KeepsTickets}
use Rattle.mount_parts.proofs.Places.{map-kept, map-there, same-length, seen-alike, within}

pub of-with_size : (m : MountView) (p : PassView) (at : ℕ) (before after : SizeSeat) → IsPassOf m p → slice_get p.sizes at ≡ Some before → after.seat.cell ≡ before.seat.cell → IsPassOf m (with_size p at after)
of-with_size m p at before after is here cell = record { stripes = is.stripes; sizes = map-kept (λ (s : SizeSeat). s.seat.cell) p.sizes at before after here cell ∙ is.sizes; locks = is.locks; queue = is.queue }

pub tickets-with_size : (p : PassView) (at : ℕ) (after : SizeSeat) → KeepsTickets p (with_size p at after)
tickets-with_size p at after t is = record { caller = is.caller; seat = is.seat; here = is.here; loan = is.loan }

-- claims that a turn left but for the rooms are still those of a seat of the same numbers
pub size-left : (caller spare : ℕ) (claims left : ClaimsView) → IsSizeSeat caller spare claims → without_rooms left ≡ without_rooms claims → IsSizeSeat caller spare left
size-left caller spare claims left is same = ap (λ (k : ClaimsView). record k { rooms = left.rooms }) same ∙ ap (λ (k : ClaimsView). record k { rooms = left.rooms }) is

module _ {S : Type 0} (view : S → SizeSeat) (stripes : List (SeatView Entry)) (seats : List S) (locks : List (Option LockView)) (caller spare last : ℕ) (begun : Option Begun) (bios : BioSeatsView) (p : PassView) (is : pass_view stripes (map view seats) locks caller spare last begun bios ≡ p) (at : ℕ) where
  -- with another seat there
  pub size-set : (y : S) → pass_view stripes (map view (set seats at y)) locks caller spare last begun bios ≡ with_size p at (view y)
  size-set y = ap (λ l. pass_view stripes l locks caller spare last begun bios) (map-set view seats at y) ∙ ap (λ q. with_size q at (view y)) is

  module _ (m : MountView) (of : IsPassOf m p) (x : S) (cell : CellView SizesView) (read : x ≡ get_or seats at x) (here : slice_get m.sizes at ≡ Some cell) where
    pub size-there : slice_get seats at ≡ Some x
    size-there =
        let w = within m.sizes at cell here in
        let l = same-length (λ (s : SizeSeat). s.seat.cell) (λ (c : CellView SizesView). c.cell) p.sizes m.sizes of.sizes in
        let k : length (map view seats) ≡ length p.sizes = ap (λ (q : PassView). length q.sizes) is in
        let n = length-map seats view in
        slice_get_read seats (length seats) at x refl (omega arith) read

    pub sizes-at : StandAtSize m p at cell (view x)
    sizes-at = record { cell_is = here; seat_is = subst (λ (q : PassView). slice_get q.sizes at ≡ Some (view x)) is (map-there view seats at x size-there) }

    pub sizes-in : (view x).seat.cell ≡ cell.cell
    sizes-in = seen-alike (λ (s : SizeSeat). s.seat.cell) (λ (c : CellView SizesView). c.cell) p.sizes m.sizes at (view x) cell of.sizes sizes-at.seat_is here

-- a turn with the claims before and after it told otherwise
pub size-turned : (does : ClaimsView → ClaimsView → List SizeEntry → SizesView → SizesView → SizeEntry → Type 0) (opening : SizesView) (c1 c2 d1 d2 : ClaimsView) (before after : SeatView SizeEntry)
    → c1 ≡ d1 → c2 ≡ d2 → Turned SizeTruth (does c1 c2) opening c1 c2 before after → Turned SizeTruth (does d1 d2) opening d1 d2 before after
size-turned does opening c1 c2 d1 d2 before after e1 e2 t =
    let f : Turned SizeTruth (does d1 c2) opening d1 c2 before after = subst (λ c. Turned SizeTruth (does c c2) opening c c2 before after) e1 t in
    subst (λ c. Turned SizeTruth (does d1 c) opening d1 c before after) e2 f
