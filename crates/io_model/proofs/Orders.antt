-- The places where two lists pass a test: they rise, and they are those that another test tells.
use Rattle.std.proofs.Common.{◌≡◌, ℕ, ◌+◌, ◌<◌, ◌≤◌, ◌==◌, Bool, true, false, nat_lt, if◌then◌else◌, List, [], ◌∷◌, length, IsTrue, refl, arith, ◌⊎◌, inl, inr}
use Rattle.std.proofs.lemmas.Bool.{and_parts, and_from, or_cases, or_left, eq-eqb, eqb-true, lt-ltb, cases_order, false≢true}
use Rattle.std.specs.List.{list_all}
use Rattle.io_model.specs.Lists.{both_from, same}
use Rattle.io_model.specs.OneOrder.{places_where}
use Rattle.io_model.proofs.Rising.{has, has-tail, rises}

-- a place that is taken where a test holds, before others
abbrev taken : Bool → ℕ → List ℕ → List ℕ
taken t n rest = if t then n ∷ rest else rest

taken-above : (t : Bool) (k n : ℕ) (rest : List ℕ) → k < n → IsTrue (list_all (nat_lt k) rest) → IsTrue (list_all (nat_lt k) (taken t n rest))
taken-above true k n rest low all = and_from (nat_lt k n) (list_all (nat_lt k) rest) (lt-ltb k n low) all
taken-above false k n rest low all = all

taken-rises : (t : Bool) (n : ℕ) (rest : List ℕ) → IsTrue (list_all (nat_lt n) rest) → IsTrue (rises rest) → IsTrue (rises (taken t n rest))
taken-rises true n rest all up = and_from (list_all (nat_lt n) rest) (rises rest) all up
taken-rises false n rest all up = up

taken-cases : (t : Bool) (n m : ℕ) (rest : List ℕ) → IsTrue (has m (taken t n rest)) → ((t ≡ true) × (n ≡ m)) ⊎ IsTrue (has m rest)
taken-cases true n m rest h = elim (or_cases (n == m) (has m rest) h) [ inl e ↦ inl (refl, eqb-true n m e) | inr later ↦ inr later ]
taken-cases false n m rest h = inr h

taken-first : (t : Bool) (n m : ℕ) (rest : List ℕ) → t ≡ true → n ≡ m → IsTrue (has m (taken t n rest))
taken-first true n m rest is e = or_left (n == m) (has m rest) (eq-eqb n m e)
taken-first false n m rest is e = absurd (false≢true is)

taken-rest : (t : Bool) (n m : ℕ) (rest : List ℕ) → IsTrue (has m rest) → IsTrue (has m (taken t n rest))
taken-rest true n m rest h = has-tail n rest m h
taken-rest false n m rest h = h

same_answer : (a b : Bool) → IsTrue (same a b) → a ≡ b
same_answer true true h = refl
same_answer true false h = absurd (false≢true h)
same_answer false true h = absurd (false≢true h)
same_answer false false h = refl

-- the places are greater than a number below the first
pub places-above : {A B : Type 0} (test : A → B → Bool) (k n : ℕ) (xs : List A) (ys : List B) → k < n → IsTrue (list_all (nat_lt k) (places_where test n xs ys))
places-above test k n [] ys low = refl
places-above test k n (x ∷ xs) [] low = refl
places-above test k n (x ∷ xs) (y ∷ ys) low =
    taken-above (test x y) k n (places_where test (n + 1) xs ys) low (places-above test k (n + 1) xs ys (omega arith))

pub places-rise : {A B : Type 0} (test : A → B → Bool) (n : ℕ) (xs : List A) (ys : List B) → IsTrue (rises (places_where test n xs ys))
places-rise test n [] ys = refl
places-rise test n (x ∷ xs) [] = refl
places-rise test n (x ∷ xs) (y ∷ ys) =
    taken-rises (test x y) n (places_where test (n + 1) xs ys) (places-above test n (n + 1) xs ys (omega arith)) (places-rise test (n + 1) xs ys)

-- what holds exactly of the places that pass the test holds of each of them
pub places-told : {A B : Type 0} (test : A → B → Bool) (p : ℕ → Bool) (n : ℕ) (xs : List A) (ys : List B) → IsTrue (both_from (λ k x y. same (p k) (test x y)) n xs ys)
    → (m : ℕ) → IsTrue (has m (places_where test n xs ys)) → IsTrue (p m)
places-told test p n [] ys all m h = absurd (false≢true h)
places-told test p n (x ∷ xs) [] all m h = absurd (false≢true h)
places-told test p n (x ∷ xs) (y ∷ ys) all m h =
    let parts = and_parts (same (p n) (test x y)) (both_from (λ k x y. same (p k) (test x y)) (n + 1) xs ys) all in
    elim (taken-cases (test x y) n m (places_where test (n + 1) xs ys) h) [
      | inl here ↦ (let agree = same_answer (p n) (test x y) parts.0 in cc)
      | inr later ↦ places-told test p (n + 1) xs ys parts.1 m later
    ]

-- and a number among them of which it holds is one of the places
pub places-have : {A B : Type 0} (test : A → B → Bool) (p : ℕ → Bool) (n : ℕ) (xs : List A) (ys : List B) → IsTrue (both_from (λ k x y. same (p k) (test x y)) n xs ys)
    → (m : ℕ) → n ≤ m → m < n + length xs → IsTrue (p m) → IsTrue (has m (places_where test n xs ys))
places-have test p n [] ys all m low high h = absurd (omega arith)
places-have test p n (x ∷ xs) [] all m low high h = absurd (false≢true all)
places-have test p n (x ∷ xs) (y ∷ ys) all m low high h =
    let parts = and_parts (same (p n) (test x y)) (both_from (λ k x y. same (p k) (test x y)) (n + 1) xs ys) all in
    let rest = places_where test (n + 1) xs ys in
    elim (cases_order n m) [
      | inl here ↦ (let agree = same_answer (p n) (test x y) parts.0 in let passed : test x y ≡ true = cc in taken-first (test x y) n m rest passed here)
      | inr other ↦ elim other [
        | inl below ↦ taken-rest (test x y) n m rest (places-have test p (n + 1) xs ys parts.1 m (omega arith) (omega arith) h)
        | inr above ↦ absurd (omega arith)
      ]
    ]
