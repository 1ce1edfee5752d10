-- A pass whose seat at one stripe, or at one lock, changed.
use Rattle.std.proofs.Common.{◌≡◌, ℕ, ◌<◌, inl, inr, List, length, map, set, get_or, Some, None, Option, refl, sym, ap, ◌∙◌, subst, arith}
use Rattle.std.proofs.lemmas.List.{map-set, set-set, length-map}
use Rattle.std.proofs.lemmas.Option.{slice_get_read}
use Rattle.atomic_table.specs.Seated.{TableId}
use Rattle.std.specs.Prelude.{slice_get}
use Rattle.std.proofs.lemmas.Bool.{cases_eq}
use Rattle.turn_cell.specs.Stakes.{Begins}
use Rattle.turn_cell.specs.Views.{CellView, SeatView}
use Rattle.turn_cell.proofs.Beginnings.{begins-then}
use Rattle.inode_lock.specs.View.{LockView}
use Rattle.iob_base.specs.declared.stamp.FileId.{FileId}
use Rattle.range_core.specs.declared.entry.Entry.{Entry}
use Rattle.mini_fs.specs.Holds.{with_lock}
use Rattle.mount_parts.specs.MountView.{MountView, HasFile, IsLaidOut}
use Rattle.mini_fs.specs.BioSeats.{BioSeatsView}
use Rattle.mini_fs.specs.declared.begun.Begun.{Begun}
use Rattle.mini_fs.specs.PassView.{PassView, SizeSeat, IsPassOf, pass_view}
use Rattle.mini_fs.specs.Tickets.{KeepsTickets}
use Rattle.range_core.specs.RangeView.{RangeView}
use Rattle.mini_fs.specs.Turns.{StandAt, with_seat}
use Rattle.mount_parts.proofs.Places.{map-kept, map-there, same-length, seen-alike, set-same, set-other, set-length, there-set, within}

module _ (p : PassView) (stripe : ℕ) (before after : SeatView Entry) (here : slice_get p.stripes stripe ≡ Some before) (cell : after.cell ≡ before.cell) where
  pub of-with_seat : (m : MountView) → IsPassOf m p → IsPassOf m (with_seat p stripe after)
  of-with_seat m is = record { stripes = map-kept (λ (s : SeatView Entry). s.cell) p.stripes stripe before after here cell ∙ is.stripes; sizes = is.sizes; locks = is.locks; queue = is.queue }

  -- a seat that has seen more keeps the tickets
  pub tickets-with_seat : Begins before.seen after.seen → KeepsTickets p (with_seat p stripe after)
  tickets-with_seat more t is = elim (cases_eq t.stripe stripe) [
    | inl e ↦ let same : is.seat ≡ before = cc in record {
      caller = is.caller;
      seat = after;
      here = subst (λ k. slice_get (set p.stripes stripe after) k ≡ Some after) (sym e) (set-same p.stripes stripe before after here);
      loan = record { cell = is.loan.cell ∙ ap (λ (s : SeatView Entry). s.cell) same ∙ sym cell; begins = begins-then _ _ _ is.loan.begins (subst (λ (s : SeatView Entry). Begins s.seen after.seen) (sym same) more); made = is.loan.made; share = is.loan.share };
    }
    | inr n ↦ record { caller = is.caller; seat = is.seat; here = set-other p.stripes stripe t.stripe after n ∙ is.here; loan = is.loan }
  ]

-- the pass with a seat of the mount's lock at home
pub of-lock_home : (m : MountView) (p : PassView) (file : FileId) (seat : LockView) → IsPassOf m p → slice_get m.locks file.0 ≡ Some seat.lock → IsPassOf m (with_lock p file (Some seat))
of-lock_home m p file seat is lock = record { stripes = is.stripes; sizes = is.sizes; locks = (set-length p.locks file.0 (Some seat) ∙ is.locks.0, home); queue = is.queue }
  where
    home : (f : ℕ) (id : TableId) (other : LockView) → slice_get m.locks f ≡ Some id → slice_get (set p.locks file.0 (Some seat)) f ≡ Some (Some other) → other.lock ≡ id
    home f id other at there = elim (cases_eq f file.0) [
      | inl e ↦
          let below : file.0 < length p.locks = let w = within m.locks file.0 seat.lock lock in let l = is.locks.0 in omega arith in
          let h = there-set p.locks file.0 (Some seat) below in
          let same : Some (Some seat) ≡ Some (Some other) = sym h ∙ ap (λ k. slice_get (set p.locks file.0 (Some seat)) k) (sym e) ∙ there in
          let ids : Some seat.lock ≡ Some id = sym lock ∙ ap (λ k. slice_get m.locks k) (sym e) ∙ at in
          let one : seat ≡ other = cc in
          let two : seat.lock ≡ id = cc in
          sym (ap (λ (v : LockView). v.lock) one) ∙ two
      | inr n ↦ is.locks.1 f id other at (sym (set-other p.locks file.0 f (Some seat) n) ∙ there)
    ]

-- a lock's seat went out and came home
pub lock_set : (p q r : PassView) (file : FileId) (seat : LockView) → q ≡ with_lock p file None → r ≡ with_lock q file (Some seat) → r ≡ with_lock p file (Some seat)
lock_set p q r file seat out home = home ∙ ap (λ v. with_lock v file (Some seat)) out ∙ (λ j. record p { locks = set-set p.locks file.0 None (Some seat) j })

-- a lock of the mount is a file's
pub lock-file : (m : MountView) (file : FileId) (id : TableId) → IsLaidOut m → slice_get m.locks file.0 ≡ Some id → HasFile m file
lock-file m file id laid at = let w = within m.locks file.0 id at in let e = laid.locks in omega arith

-- A pass is seen by its seats, of which the one at this stripe is `x`
module _ {S : Type 0} (view : S → SeatView Entry) (seats : List S) (sizes : List SizeSeat) (locks : List (Option LockView)) (caller spare last : ℕ) (begun : Option Begun) (bios : BioSeatsView) (p : PassView) (is : pass_view (map view seats) sizes locks caller spare last begun bios ≡ p) (stripe : ℕ) where
  -- with another seat there
  pub seat-set : (y : S) → pass_view (map view (set seats stripe y)) sizes locks caller spare last begun bios ≡ with_seat p stripe (view y)
  seat-set y = ap (λ l. pass_view l sizes locks caller spare last begun bios) (map-set view seats stripe y) ∙ ap (λ q. with_seat q stripe (view y)) is

  module _ (m : MountView) (of : IsPassOf m p) (x : S) (cell : CellView RangeView) (at : x ≡ get_or seats stripe x) (here : slice_get m.stripes stripe ≡ Some cell) where
    pub seat-there : slice_get seats stripe ≡ Some x
    seat-there =
        let w = within m.stripes stripe cell here in
        let l = same-length (λ (s : SeatView Entry). s.cell) (λ (c : CellView RangeView). c.cell) p.stripes m.stripes of.stripes in
        let k : length (map view seats) ≡ length p.stripes = ap (λ (q : PassView). length q.stripes) is in
        let n = length-map seats view in
        slice_get_read seats (length seats) stripe x refl (omega arith) at

    pub stands-at : StandAt m p stripe cell (view x)
    stands-at = record { cell_is = here; seat_is = subst (λ (q : PassView). slice_get q.stripes stripe ≡ Some (view x)) is (map-there view seats stripe x seat-there) }

    pub stands-in : (view x).cell ≡ cell.cell
    stands-in = seen-alike (λ (s : SeatView Entry). s.cell) (λ (c : CellView RangeView). c.cell) p.stripes m.stripes stripe (view x) cell of.stripes stands-at.seat_is here
