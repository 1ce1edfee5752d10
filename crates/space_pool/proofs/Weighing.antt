-- Sums of weights over lists in another order.
use Rattle.std.proofs.Common.{◌≡◌, ℕ, List, [], ◌∷◌, refl, sym, ◌∙◌, arith}
use Rattle.std.specs.List.{sum_by}
use Rattle.std.specs.List.Sorted.{IsPermutation}
use Rattle.std.proofs.lemmas.List.Sums.{sum_by-cons}
use Rattle.std.proofs.lemmas.List.Sorted.{sum_by-IsPermutation}
use Rattle.turn_cell.specs.Stakes.{total}

module _ {A : Type 0} (f : A → ℕ) where
  total-sum_by : (xs : List A) → total f xs ≡ sum_by f xs
  total-sum_by [] = refl
  total-sum_by (x ∷ xs) = omega (arith, total-sum_by xs, sum_by-cons f x xs)

  -- lists in another order weigh the same
  pub total-permutation : (xs ys : List A) → IsPermutation xs ys → total f ys ≡ total f xs
  total-permutation xs ys p = total-sum_by ys ∙ sum_by-IsPermutation f xs ys p ∙ sym (total-sum_by xs)
