-- What follows from a turn.
use Rattle.std.proofs.Common.{◌≡◌, ℕ, ◌+◌, List, [], ◌∷◌, ◌++◌, sym, ap, ◌∙◌, append_assoc, arith}
use Rattle.turn_cell.specs.Stakes.{Stake, total, Begins}
use Rattle.turn_cell.specs.Views.{SeatView, Turned}
use Rattle.turn_cell.proofs.Sums.{total-append}

module _ {T C E : Type 0} {truth : T → T → List E → List (Stake C E) → Type 0} {does : List E → T → T → E → Type 0} {opening : T} {claims left : C} {before after : SeatView E} where
  -- the seat has seen what it had seen, and then more
  pub seen-turned : Turned truth does opening claims left before after → Begins before.seen after.seen
  seen-turned t = (t.others ++ t.entry ∷ [], sym (append_assoc before.seen t.others (t.entry ∷ [])) ∙ sym t.seen_is)

  -- what it has seen weighs more by the entries of others and by its own
  pub seen-weighs : (f : E → ℕ) (t : Turned truth does opening claims left before after) → total f after.seen ≡ (total f before.seen + total f t.others) + f t.entry
  seen-weighs f t =
      let is : total f after.seen ≡ total f ((before.seen ++ t.others) ++ t.entry ∷ []) = ap (total f) t.seen_is in
      let a = total-append f (before.seen ++ t.others) (t.entry ∷ []) in
      let b = total-append f before.seen t.others in omega arith

  -- what it made weighs more by its own entry
  pub made-weighs : (f : E → ℕ) (t : Turned truth does opening claims left before after) → total f after.made ≡ total f before.made + f t.entry
  made-weighs f t =
      let is : total f after.made ≡ total f (before.made ++ t.entry ∷ []) = ap (total f) t.made_is in
      let a = total-append f before.made (t.entry ∷ []) in omega arith
