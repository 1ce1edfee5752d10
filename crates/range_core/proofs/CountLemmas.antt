-- How many items of a run pass a test, and what a run weighs.
use Rattle.std.proofs.Common.{◌≡◌, ℕ, zero, suc, ◌+◌, ◌<◌, ◌≤◌, Bool, true, false, ◌||◌, nat_lt, Some, List, [], ◌∷◌, length, map, take, drop, get_or, set, refl, sym, ◌∙◌, ap, arith}
use Rattle.std.specs.Prelude.{slice_get}
use Rattle.std.specs.List.{list_any}
use Rattle.std.proofs.lemmas.Bool.{lt-ltb}
use Rattle.turn_cell.specs.Stakes.{total}
use Rattle.range_core.specs.EntryCounts.{one_where}
use Rattle.range_core.specs.OnRun.{count_on, on_each}
use Rattle.range_core.proofs.OnRunLemmas.{count_on-more}

module _ {A : Type 0} where
  take-nil : (n : ℕ) → take {A = A} n [] ≡ []
  take-nil zero = refl
  take-nil (suc n) = refl

  -- the first items of a list are those of its first items
  pub take-take : (k n : ℕ) (xs : List A) → k ≤ n → take k (take n xs) ≡ take k xs
  take-take zero n xs h = refl
  take-take (suc k) zero xs h = absurd (omega arith)
  take-take (suc k) (suc n) [] h = refl
  take-take (suc k) (suc n) (x ∷ xs) h = ap (λ l. x ∷ l) (take-take k n xs (omega arith))

  -- the first n items have the items before the n-th place
  pub slice_get-take : (n k : ℕ) (xs : List A) → k < n → slice_get (take n xs) k ≡ slice_get xs k
  slice_get-take zero k xs l = absurd (omega arith)
  slice_get-take (suc n) k [] l = refl
  slice_get-take (suc n) zero (x ∷ xs) l = refl
  slice_get-take (suc n) (suc k) (x ∷ xs) l = slice_get-take n k xs (omega arith)

  pub drop-next : (n : ℕ) (xs : List A) → drop 1 (drop n xs) ≡ drop (n + 1) xs
  drop-next zero xs = refl
  drop-next (suc n) [] = let z : suc n + 1 ≡ suc (n + 1) = omega arith in sym (ap (λ m. drop {A = A} m []) z)
  drop-next (suc n) (x ∷ xs) = let z : suc n + 1 ≡ suc (n + 1) = omega arith in drop-next n xs ∙ sym (ap (λ m. drop m (x ∷ xs)) z)

  -- one item changes, and the sum by as much
  pub total-put : (w : A → ℕ) (xs : List A) (i : ℕ) (x d : A) → i < length xs → total w (set xs i x) + w (get_or xs i d) ≡ total w xs + w x
  total-put w [] i x d h = absurd (omega arith)
  total-put w (y ∷ xs) zero x d h = omega arith
  total-put w (y ∷ xs) (suc i) x d h = omega (arith, total-put w xs i x d (omega arith))

  -- the first items weigh one item more
  pub total-take-more : (w : A → ℕ) (i : ℕ) (xs : List A) (x : A) → slice_get xs i ≡ Some x → total w (take (i + 1) xs) ≡ total w (take i xs) + w x
  total-take-more w i [] x e = absurd (cc)
  total-take-more w zero (y ∷ xs) x e = let is : y ≡ x = cc in ap (λ z. w z + 0) is ∙ (let z : w x + 0 ≡ 0 + w x = omega arith in z)
  total-take-more w (suc i) (y ∷ xs) x e =
      let z : suc i + 1 ≡ suc (i + 1) = omega arith in
      let rest : total w (take (i + 1) xs) ≡ total w (take i xs) + w x = total-take-more w i xs x e in
      ap (λ m. total w (take m (y ∷ xs))) z ∙ (let sum : w y + total w (take (i + 1) xs) ≡ w y + total w (take i xs) + w x = omega arith in sum)

  -- the items of a run weigh no more than all
  pub total-run-few : (w : A → ℕ) (low n : ℕ) (xs : List A) → total w (take n (drop low xs)) ≤ total w xs
  total-run-few w zero zero xs = omega arith
  total-run-few w zero (suc n) [] = omega arith
  total-run-few w zero (suc n) (x ∷ xs) = omega (arith, total-run-few w zero n xs)
  total-run-few w (suc low) n [] = omega (arith, ap (total w) (take-nil n))
  total-run-few w (suc low) n (x ∷ xs) = omega (arith, total-run-few w low n xs)

  -- the items that pass a test are as many as a run weighs, where each of them weighs one
  pub count_on-total : (p : A → Bool) (low n : ℕ) (xs : List A) → count_on p low n xs ≡ total (λ x. one_where (p x)) (take n (drop low xs))
  count_on-total p zero zero xs = refl
  count_on-total p zero (suc n) [] = refl
  count_on-total p zero (suc n) (x ∷ xs) = ap (λ m. one_where (p x) + m) (count_on-total p zero n xs)
  count_on-total p (suc low) n [] = sym (ap (total (λ x. one_where (p x))) (take-nil n))
  count_on-total p (suc low) n (x ∷ xs) = count_on-total p low n xs

  -- a loop counts one item more
  pub count_on-step : (p : A → Bool) (low i : ℕ) (xs : List A) (d : A) (now next : ℕ) → now ≡ count_on p low i xs → low + i < length xs → next ≡ now + one_where (p (get_or xs (low + i) d)) → next ≡ count_on p low (i + 1) xs
  count_on-step p low i xs d now next is h more =
      let one : suc i ≡ i + 1 = omega arith in
      let m = count_on-more p low i (low + i) xs d refl h in
      (let sum : next ≡ count_on p low (suc i) xs = omega arith in sum) ∙ ap (λ k. count_on p low k xs) one

  -- an item that passes is counted
  pub count_on-before : (p : A → Bool) (low k n : ℕ) (xs : List A) (x : A) → k < n → slice_get xs (low + k) ≡ Some x → p x ≡ true → count_on p low k xs < count_on p low n xs
  count_on-before p zero k zero xs x h at t = absurd (omega arith)
  count_on-before p zero k (suc n) [] x h at t = absurd (cc)
  count_on-before p zero zero (suc n) (y ∷ xs) x h at t =
      let is : y ≡ x = cc in
      let one : one_where (p y) ≡ 1 = ap (λ z. one_where (p z)) is ∙ ap one_where t in
      omega arith
  count_on-before p zero (suc k) (suc n) (y ∷ xs) x h at t =
      let z : 0 + suc k ≡ suc (0 + k) = omega arith in
      let rest = count_on-before p zero k n xs x (omega arith) (sym (ap (slice_get (y ∷ xs)) z) ∙ at) t in
      omega arith
  count_on-before p (suc low) k n [] x h at t = absurd (cc)
  count_on-before p (suc low) k n (y ∷ xs) x h at t =
      let z : suc low + k ≡ suc (low + k) = omega arith in
      count_on-before p low k n xs x h (sym (ap (slice_get (y ∷ xs)) z) ∙ at) t

  -- where none passes, a change of those that pass changes nothing
  pub on_each-unpicked : (f : ℕ → A → A) (p : A → Bool) → ((j : ℕ) (x : A) → p x ≡ false → f j x ≡ x) → (k low n : ℕ) (xs : List A) → count_on p low n xs ≡ 0 → on_each f k low n xs ≡ xs
  on_each-unpicked f p h k zero zero xs e = refl
  on_each-unpicked f p h k zero (suc n) [] e = refl
  on_each-unpicked f p h k zero (suc n) (x ∷ xs) e =
      let none : p x ≡ false = is_none (p x) (omega arith) in
      ap (λ y. y ∷ on_each f (suc k) zero n xs) (h k x none) ∙ ap (λ l. x ∷ l) (on_each-unpicked f p h (suc k) zero n xs (omega arith))
    where
      is_none : (t : Bool) → one_where t ≡ 0 → t ≡ false
      is_none true e = absurd (omega arith)
      is_none false e = refl
  on_each-unpicked f p h k (suc low) n [] e = refl
  on_each-unpicked f p h k (suc low) n (x ∷ xs) e = ap (λ l. x ∷ l) (on_each-unpicked f p h k low n xs e)

  -- some item of a run passes exactly where the number of those that do is above 0
  pub any-count_on : (p : A → Bool) (low n : ℕ) (xs : List A) → list_any p (take n (drop low xs)) ≡ nat_lt 0 (count_on p low n xs)
  any-count_on p low n xs = any-total (take n (drop low xs)) ∙ sym (ap (nat_lt 0) (count_on-total p low n xs))
    where
      any-total : (ys : List A) → list_any p ys ≡ nat_lt 0 (total (λ x. one_where (p x)) ys)
      any-total [] = refl
      any-total (y ∷ ys) = at (p y) (any-total ys)
        where
          at : (t : Bool) → list_any p ys ≡ nat_lt 0 (total (λ x. one_where (p x)) ys) → (t || list_any p ys) ≡ nat_lt 0 (one_where t + total (λ x. one_where (p x)) ys)
          at true e = sym (lt-ltb 0 (1 + total (λ x. one_where (p x)) ys) (omega arith))
          at false e = e ∙ ap (nat_lt 0) (omega arith)

  -- where the items of a run lose one weight and gain another, all do
  pub total-run : (f : ℕ → A → A) (w u v : A → ℕ) → ((j : ℕ) (x : A) → w (f j x) + u x ≡ w x + v x) → (k low n : ℕ) (xs : List A)
      → total w (on_each f k low n xs) + total u (take n (drop low xs)) ≡ total w xs + total v (take n (drop low xs))
  total-run f w u v h k zero zero xs = refl
  total-run f w u v h k zero (suc n) [] = refl
  total-run f w u v h k zero (suc n) (x ∷ xs) = omega (arith, h k x, total-run f w u v h (suc k) zero n xs)
  total-run f w u v h k (suc low) n [] = omega (arith, ap (total u) (take-nil n), ap (total v) (take-nil n))
  total-run f w u v h k (suc low) n (x ∷ xs) = omega (arith, total-run f w u v h k low n xs)

  -- where none passes, what those that do not pass keep is kept
  pub map-unpicked : {B : Type 0} (f : ℕ → A → A) (g : A → B) (p : A → Bool) → ((j : ℕ) (x : A) → p x ≡ false → g (f j x) ≡ g x) → (k low n : ℕ) (xs : List A) → count_on p low n xs ≡ 0 → map g (on_each f k low n xs) ≡ map g xs
  map-unpicked f g p h k zero zero xs e = refl
  map-unpicked f g p h k zero (suc n) [] e = refl
  map-unpicked f g p h k zero (suc n) (x ∷ xs) e =
      let none : p x ≡ false = is_none (p x) (omega arith) in
      ap (λ y. y ∷ map g (on_each f (suc k) zero n xs)) (h k x none) ∙ ap (λ l. g x ∷ l) (map-unpicked f g p h (suc k) zero n xs (omega arith))
    where
      is_none : (t : Bool) → one_where t ≡ 0 → t ≡ false
      is_none true e = absurd (omega arith)
      is_none false e = refl
  map-unpicked f g p h k (suc low) n [] e = refl
  map-unpicked f g p h k (suc low) n (x ∷ xs) e = ap (λ l. g x ∷ l) (map-unpicked f g p h k low n xs e)
