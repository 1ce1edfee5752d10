-- Sums of weights over a list, and over what seats made.
use Rattle.std.proofs.Common.{◌≡◌, ◌≢◌, ℕ, zero, suc, ◌+◌, ◌≤◌, List, [], ◌∷◌, ◌++◌, map, length, set, refl, sym, ap, arith}
use mathlib.Core.Option.{some, some-injective, some-ne-none}
use lib.ListN.{get_elem?}
use Rattle.turn_cell.specs.Stakes.{total}

module _ {A : Type 0} (f : A → ℕ) where
  -- two lists one after the other weigh what both weigh
  pub total-append : (xs ys : List A) → total f (xs ++ ys) ≡ total f xs + total f ys
  total-append [] ys = omega arith
  total-append (x ∷ xs) ys = omega (arith, total-append xs ys)

  -- one item changes, and the sum by as much
  pub total-set : (xs : List A) (i : ℕ) (a b : A) → get_elem? xs i ≡ some a → total f (set xs i b) + f a ≡ total f xs + f b
  total-set [] i a b at = absurd (some-ne-none a (sym at))
  total-set (x ∷ xs) zero a b at = let e : f x ≡ f a = ap f (some-injective x a at) in omega arith
  total-set (x ∷ xs) (suc i) a b at = omega (arith, total-set xs i a b at)

  -- one item weighs at most as much as all
  pub total-at : (xs : List A) (i : ℕ) (a : A) → get_elem? xs i ≡ some a → f a ≤ total f xs
  total-at [] i a at = absurd (some-ne-none a (sym at))
  total-at (x ∷ xs) zero a at = let e : f x ≡ f a = ap f (some-injective x a at) in omega arith
  total-at (x ∷ xs) (suc i) a at = omega (arith, total-at xs i a at)

  -- two items weigh at most as much as all
  pub total-two : (xs : List A) (i j : ℕ) (a b : A) → j ≢ i → get_elem? xs i ≡ some a → get_elem? xs j ≡ some b → f a + f b ≤ total f xs
  total-two [] i j a b apart at bt = absurd (some-ne-none a (sym at))
  total-two (x ∷ xs) zero zero a b apart at bt = absurd (apart refl)
  total-two (x ∷ xs) zero (suc j) a b apart at bt = let e : f x ≡ f a = ap f (some-injective x a at) in omega (arith, total-at xs j b bt)
  total-two (x ∷ xs) (suc i) zero a b apart at bt = let e : f x ≡ f b = ap f (some-injective x b bt) in omega (arith, total-at xs i a at)
  total-two (x ∷ xs) (suc i) (suc j) a b apart at bt = omega (arith, total-two xs i j a b (λ e. apart (ap suc e)) at bt)

  -- where one item weighs as much as all, each other weighs nothing
  pub total-sole : (xs : List A) (i j : ℕ) (a b : A) → get_elem? xs i ≡ some a → total f xs ≡ f a → j ≢ i → get_elem? xs j ≡ some b → f b ≡ 0
  total-sole xs i j a b at sole apart bt = omega (arith, total-two xs i j a b apart at bt)

  total-none : (xs : List A) → ((j : ℕ) (b : A) → get_elem? xs j ≡ some b → f b ≡ 0) → total f xs ≡ 0
  total-none [] none = refl
  total-none (x ∷ xs) none = let e : f x ≡ 0 = none zero x refl in let r : total f xs ≡ 0 = total-none xs (λ j b at. none (suc j) b at) in omega arith

  -- where each other item weighs nothing, all weigh what the one does
  pub total-alone : (xs : List A) (i : ℕ) (a : A) → get_elem? xs i ≡ some a → ((j : ℕ) (b : A) → j ≢ i → get_elem? xs j ≡ some b → f b ≡ 0) → total f xs ≡ f a
  total-alone [] i a at others = absurd (some-ne-none a (sym at))
  total-alone (x ∷ xs) zero a at others =
      let e : f x ≡ f a = ap f (some-injective x a at) in let r : total f xs ≡ 0 = total-none xs (λ j b bt. others (suc j) b (λ z. omega arith) bt) in omega arith
  total-alone (x ∷ xs) (suc i) a at others =
      let e : f x ≡ 0 = others zero x (λ z. omega arith) refl in
      let r : total f xs ≡ f a = total-alone xs i a at (λ j b apart bt. others (suc j) b (λ z. apart (omega arith)) bt) in omega arith

module _ {A B : Type 0} where
  -- the items, each by way of another
  pub total-map : (f : B → ℕ) (g : A → B) (xs : List A) → total f (map g xs) ≡ total (λ a. f (g a)) xs
  total-map f g [] = refl
  total-map f g (x ∷ xs) = ap (λ n. f (g x) + n) (total-map f g xs)

  pub map-set : (g : A → B) (xs : List A) (i : ℕ) (a : A) → map g (set xs i a) ≡ set (map g xs) i (g a)
  map-set g [] i a = refl
  map-set g (x ∷ xs) zero a = refl
  map-set g (x ∷ xs) (suc i) a = ap (λ ys. g x ∷ ys) (map-set g xs i a)

  pub map-append : (g : A → B) (xs ys : List A) → map g (xs ++ ys) ≡ map g xs ++ map g ys
  map-append g [] ys = refl
  map-append g (x ∷ xs) ys = ap (λ zs. g x ∷ zs) (map-append g xs ys)

-- where each item weighs one, all weigh their number
pub total-count : {A : Type 0} (xs : List A) → total (λ _. 1) xs ≡ length xs
total-count [] = refl
total-count (x ∷ xs) = omega (arith, total-count xs)
