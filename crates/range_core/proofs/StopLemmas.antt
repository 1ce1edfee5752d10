-- What it tells of the blocks that none of them hinders.
use Rattle.std.proofs.Common.{◌≡◌, ℕ, zero, suc, ◌+◌, ◌-◌, ◌<◌, Bool, true, false, Option, Some, None, List, [], ◌∷◌, take, drop, refl, sym, ◌∙◌, ap, arith}
use Rattle.std.specs.Prelude.{nat_le, slice_get}
use Rattle.std.proofs.lemmas.Bool.{leb-false}
use Rattle.iob_base.specs.declared.TheConstants.{WORN}
use Rattle.range_core.specs.RangeView.{RangeView}
use Rattle.range_core.specs.Refusals.{◌orElse◌, first_that_stops, run_of, where_true, worn}
use Rattle.range_core.specs.declared.cell.Cell.{Cell}
use Rattle.range_core.specs.declared.fault.EventFault.{EventFault}

-- what is no value is none
pub never_some : {A : Type 0} (o : Option A) → ((x : A) → o ≡ Some x → ⊥) → o ≡ None
never_some None never = refl
never_some (Some x) never = absurd (never x refl)

-- neither of two refusals comes
pub neither : (a b : Option EventFault) → a orElse b ≡ None → (a ≡ None) × (b ≡ None)
neither None b e = (refl, e)
neither (Some f) b e = absurd (cc)

pub where_true-not : (t : Bool) (f : EventFault) → where_true t f ≡ None → t ≡ false
where_true-not true f e = absurd (cc)
where_true-not false f e = refl

-- none of these blocks hinders
pub none_stops : (stops : ℕ → Cell → Option EventFault) (b : ℕ) (cells : List Cell) (k : ℕ) (c : Cell) → first_that_stops stops b cells ≡ None → slice_get cells k ≡ Some c → stops (b + k) c ≡ None
none_stops stops b [] k c e at = absurd (cc)
none_stops stops b (x ∷ cells) zero c e at =
    let is : x ≡ c = cc in
    let z : b ≡ b + 0 = omega arith in
    let n = neither (stops b x) (first_that_stops stops (b + 1) cells) e in
    sym (ap (λ i. stops i c) z) ∙ ap (stops b) (sym is) ∙ n.0
none_stops stops b (x ∷ cells) (suc k) c e at =
    let z : b + 1 + k ≡ b + suc k = omega arith in
    let n = neither (stops b x) (first_that_stops stops (b + 1) cells) e in
    sym (ap (λ i. stops i c) z) ∙ none_stops stops (b + 1) cells k c n.1 at

-- a block of a run of the range
pub run_of-at : (r : RangeView) (b n k : ℕ) (c : Cell) → k < n → slice_get r.cells (b - r.first + k) ≡ Some c → slice_get (run_of r b n) k ≡ Some c
run_of-at r b n k c l at = taken (b - r.first) n k r.cells l at
  where
    first : (n k : ℕ) (xs : List Cell) → k < n → slice_get xs k ≡ Some c → slice_get (take n xs) k ≡ Some c
    first zero k xs l e = absurd (omega arith)
    first (suc n) k [] l e = absurd (cc)
    first (suc n) zero (x ∷ xs) l e = e
    first (suc n) (suc k) (x ∷ xs) l e = first n k xs (omega arith) e

    taken : (low n k : ℕ) (xs : List Cell) → k < n → slice_get xs (low + k) ≡ Some c → slice_get (take n (drop low xs)) k ≡ Some c
    taken zero n k xs l e = let z : 0 + k ≡ k = omega arith in first n k xs l (sym (ap (slice_get xs) z) ∙ e)
    taken (suc low) n k [] l e = absurd (cc)
    taken (suc low) n k (x ∷ xs) l e = let z : suc low + k ≡ suc (low + k) = omega arith in taken low n k xs l (sym (ap (slice_get (x ∷ xs)) z) ∙ e)

-- a cookie is left where an event that uses one is not refused for want of it
pub unworn : (r : RangeView) → worn r true ≡ None → r.cookie < WORN
unworn r e = leb-false WORN r.cookie (where_true-not (nat_le WORN r.cookie) _ e)
