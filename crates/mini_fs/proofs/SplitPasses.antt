-- What a split leaves of a pass, and that both passes are of the mount.
use Rattle.std.proofs.Common.{◌≡◌, ℕ, zero, suc, List, [], ◌∷◌, length, map, Some, None, Option, refl, sym, ap, ◌∙◌}
use Rattle.std.specs.Prelude.{slice_get}
use Rattle.std.proofs.lemmas.List.{length-map}
use Rattle.std.proofs.lemmas.Option.{none-some}
use Rattle.atomic_table.specs.Seated.{TableId}
use Rattle.inode_lock.specs.View.{LockView, fresh}
use Rattle.turn_cell.specs.Views.{SeatView}
use Rattle.range_core.specs.declared.entry.Entry.{Entry}
use Rattle.mount_parts.specs.MountView.{MountView}
use Rattle.mini_fs.specs.BioSeats.{BioSeatsView}
use Rattle.mini_fs.specs.PassView.{IsPassOf, PassView, SizeSeat}
use Rattle.mount_parts.specs.Locks.{AreFresh}
use Rattle.mini_fs.specs.Splits.{SplitOff, given_size, given_stripe, kept_lock, kept_pass, kept_size, kept_stripe}
use Rattle.mini_fs.specs.Tickets.{KeepsTickets}
use Rattle.mount_parts.proofs.Places.{map-there}
use Rattle.mini_fs.proofs.Through.{map-map}

kept-home : (ids : List TableId) (places : List (Option LockView)) (f : ℕ) (id : TableId) (seat : LockView) → ((other : LockView) → slice_get places f ≡ Some (Some other) → other.lock ≡ id) → slice_get (map kept_lock places) f ≡ Some (Some seat) → seat.lock ≡ id
kept-home ids [] f id seat each at = absurd (none-some (Some seat) at)
kept-home ids (None ∷ places) zero id seat each at = absurd (none-some seat (let e : None ≡ Some seat = cc in e))
kept-home ids (Some other ∷ places) zero id seat each at = sym (ap (λ (v : LockView). v.lock) (let e : Rattle.inode_lock.specs.View.split_off other ≡ seat = cc in e)) ∙ each other refl
kept-home ids (place ∷ places) (suc f) id seat each at = kept-home ids places f id seat each at

-- the pass that is left is of the mount
pub of-kept : (m : MountView) (p : PassView) → IsPassOf m p → IsPassOf m (kept_pass p)
of-kept m p is = record {
  stripes = map-map (λ (s : SeatView Entry). s.cell) kept_stripe p.stripes ∙ is.stripes;
  sizes = map-map (λ (s : SizeSeat). s.seat.cell) kept_size p.sizes ∙ is.sizes;
  locks = (length-map p.locks kept_lock ∙ is.locks.0, λ f id seat at there. kept-home m.locks p.locks f id seat (λ other here. is.locks.1 f id other at here) there);
  queue = is.queue;
}

-- its tickets stay
pub tickets-kept : (p : PassView) → KeepsTickets p (kept_pass p)
tickets-kept p t is = record { caller = is.caller; seat = kept_stripe is.seat; here = map-there kept_stripe p.stripes t.stripe is.seat is.here; loan = record { cell = is.loan.cell; begins = is.loan.begins; made = is.loan.made; share = is.loan.share } }

pub fresh-length : (ids : List TableId) (places : List (Option LockView)) → AreFresh ids places → length places ≡ length ids
fresh-length [] [] are = refl
fresh-length [] (p ∷ places) are = absurd are
fresh-length (id ∷ ids) [] are = absurd are
fresh-length (id ∷ ids) (p ∷ places) are = ap suc (fresh-length ids places are.1)

pub fresh-home : (ids : List TableId) (places : List (Option LockView)) (f : ℕ) (id : TableId) (seat : LockView) → AreFresh ids places → slice_get ids f ≡ Some id → slice_get places f ≡ Some (Some seat) → seat.lock ≡ id
fresh-home [] places f id seat are at there = absurd (none-some id at)
fresh-home (d ∷ ids) [] f id seat are at there = absurd are
fresh-home (d ∷ ids) (p ∷ places) zero id seat are at there =
    let e : p ≡ Some seat = cc in
    let both : Some (fresh d are.0.0) ≡ Some seat = sym are.0.1 ∙ e in
    let s : fresh d are.0.0 ≡ seat = cc in
    let i : d ≡ id = cc in
    sym (ap (λ (v : LockView). v.lock) s) ∙ i
fresh-home (d ∷ ids) (p ∷ places) (suc f) id seat are at there = fresh-home ids places f id seat are.1 at there

-- the new pass is of the mount
pub of-new : (m : MountView) (p q new : PassView) → IsPassOf m p → SplitOff m p q new → IsPassOf m new
of-new m p q new is split = record {
  stripes = ap (map (λ (s : SeatView Entry). s.cell)) split.stripes ∙ map-map (λ (s : SeatView Entry). s.cell) given_stripe p.stripes ∙ is.stripes;
  sizes = ap (map (λ (s : SizeSeat). s.seat.cell)) split.sizes ∙ map-map (λ (s : SizeSeat). s.seat.cell) given_size p.sizes ∙ is.sizes;
  locks = (fresh-length m.locks new.locks split.locks, λ f id seat at there. fresh-home m.locks new.locks f id seat split.locks at there);
  queue = ap (λ (b : BioSeatsView). b.queue.queue) split.bios ∙ is.queue;
}
