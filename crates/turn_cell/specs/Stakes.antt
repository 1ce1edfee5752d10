-- What each seat claims and has made, seat by seat, and sums over lists.
use Rattle.std.specs.Prelude.{◌≡◌, ℕ, ◌+◌, List, [], ◌∷◌, ◌++◌, Option}

-- what a seat claims, or nothing once it was joined away, and the entries that it made
abbrev pub Stake : Type 0 → Type 0 → Type 0
Stake C E = Option C × List E

module _ {A : Type 0} where
  -- the weights of the items, added up
  abbrev pub total : (A → ℕ) → List A → ℕ
  total f [] = 0
  total f (x ∷ xs) = f x + total f xs

  -- the second list begins with the first
  abbrev pub Begins : List A → List A → Type 0
  Begins xs ys = (rest : List A) × (xs ++ rest ≡ ys)

module _ {C E : Type 0} where
  -- the weights of all entries that the seats made
  abbrev pub tally : (E → ℕ) → List (Stake C E) → ℕ
  tally f stakes = total (λ s. total f s.1) stakes

  -- however entries are weighed, the history weighs what the seats made: each of its entries was made by one seat, once
  abbrev pub Once : List E → List (Stake C E) → Type 0
  Once history stakes = (f : E → ℕ) → total f history ≡ tally f stakes
