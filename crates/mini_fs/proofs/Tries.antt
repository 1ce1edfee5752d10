-- What a try tells, in either case.
use Rattle.std.proofs.Common.{List, sym, subst}
use Rattle.std.specs.Prelude.{Result, Ok, Err, IfOk, IfErr}
use Rattle.turn_cell.specs.Stakes.{Begins}
use Rattle.turn_cell.specs.Views.{SeatView, Turned, FoundHeld}
use Rattle.turn_cell.specs.declared.turn.Busy.{Busy}
use Rattle.turn_cell.proofs.Beginnings.{begins-self}
use Rattle.range_core.specs.ClaimsView.{ClaimsView}
use Rattle.range_core.specs.RangeTruth.{RangeTruth}
use Rattle.range_core.specs.RangeView.{RangeView}
use Rattle.range_core.specs.declared.entry.Entry.{Entry}
use Rattle.mini_fs.proofs.Loans.{turned-begins}

module _ {A E : Type 0} where
  pub if-ok : (P Q R : A → Type 0) (r : Result A E) → ((x : A) → P x → Q x → R x) → IfOk r P → IfOk r Q → IfOk r R
  if-ok P Q R (Ok x) f p q = f x p q
  if-ok P Q R (Err e) f p q = tt

  pub if-err : (P Q : E → Type 0) (r : Result A E) → ((e : E) → P e → Q e) → IfErr r P → IfErr r Q
  if-err P Q (Ok x) f p = tt
  if-err P Q (Err e) f p = f e p

-- whether it made its turn or not, a seat sees on from what it had seen
pub tried-begins : {A : Type 0} (does : A → List Entry → RangeView → RangeView → Entry → Type 0) (X : Busy → Type 0) (opening : RangeView) (claims left : ClaimsView) (before after : SeatView Entry) (r : Result A Busy)
    → IfOk r (λ out. Turned RangeTruth (does out) opening claims left before after) → IfErr r (λ busy. FoundHeld before busy.word after × X busy) → Begins before.seen after.seen
tried-begins does X opening claims left before after (Ok out) t e = turned-begins (does out) opening claims left before after t
tried-begins does X opening claims left before after (Err busy) t e = subst (λ (s : SeatView Entry). Begins before.seen s.seen) (sym e.0.seat_is) (begins-self before.seen)
