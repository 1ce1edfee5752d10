-- Runs whose items change one by one.
use Rattle.std.proofs.Common.{◌≡◌, ℕ, zero, suc, ◌+◌, ◌-◌, ◌<◌, ◌≤◌, ◌⊎◌, Bool, Some, List, [], ◌∷◌, map, length, get_or, set, All, refl, sym, ap, ◌∙◌, arith, inl, inr}
use Rattle.std.specs.Prelude.{slice_get}
use Rattle.std.proofs.lemmas.List.Elements.{All-cons, All-tail}
use Rattle.turn_cell.specs.Stakes.{total}
use Rattle.range_core.specs.EntryCounts.{one_where}
use Rattle.range_core.specs.OnRun.{count_on, on_each}

-- an item that was changed is one of the run, and is what its number in the run makes of it; any other is as it was
pub record IsInRun {A : Type 0} (f : ℕ → A → A) (k low n i : ℕ) (was x : A) : Type 0 where
  pub low_is : low ≤ i
  pub high : i < low + n
  pub is : x ≡ f (k + (i - low)) was

pub record IsOutOfRun {A : Type 0} (low n i : ℕ) (was x : A) : Type 0 where
  pub out : (i < low) ⊎ (low + n ≤ i)
  pub is : x ≡ was

-- an item is what its number makes of another
pub record IsMade {A : Type 0} (f : ℕ → A → A) (j : ℕ) (x : A) : Type 0 where
  pub was : A
  pub is : x ≡ f j was

module _ {A : Type 0} (f : ℕ → A → A) where
  pub length-on_each : (k low n : ℕ) (xs : List A) → length (on_each f k low n xs) ≡ length xs
  length-on_each k zero zero xs = refl
  length-on_each k zero (suc n) [] = refl
  length-on_each k zero (suc n) (x ∷ xs) = ap suc (length-on_each (suc k) zero n xs)
  length-on_each k (suc low) n [] = refl
  length-on_each k (suc low) n (x ∷ xs) = ap suc (length-on_each k low n xs)

  -- no item changes in a run of none
  pub on_each-none : (k low : ℕ) (xs : List A) → xs ≡ on_each f k low 0 xs
  on_each-none k zero xs = refl
  on_each-none k (suc low) [] = refl
  on_each-none k (suc low) (x ∷ xs) = ap (λ l. x ∷ l) (on_each-none k low xs)

  -- one more item changes
  pub on_each-more : (k low n i j : ℕ) (xs : List A) (d : A) → i ≡ low + n → j ≡ k + n → i < length xs → on_each f k low (suc n) xs ≡ set (on_each f k low n xs) i (f j (get_or xs i d))
  on_each-more k low n i j [] d e g h = absurd (omega arith)
  on_each-more k zero zero zero j (x ∷ xs) d e g h = let same : k ≡ j = omega arith in ap (λ m. f m x ∷ xs) same
  on_each-more k zero zero (suc i) j (x ∷ xs) d e g h = absurd (omega arith)
  on_each-more k zero (suc n) zero j (x ∷ xs) d e g h = absurd (omega arith)
  on_each-more k zero (suc n) (suc i) j (x ∷ xs) d e g h = ap (λ l. f k x ∷ l) (on_each-more (suc k) zero n i j xs d (omega arith) (omega arith) (omega arith))
  on_each-more k (suc low) n zero j (x ∷ xs) d e g h = absurd (omega arith)
  on_each-more k (suc low) n (suc i) j (x ∷ xs) d e g h = ap (λ l. x ∷ l) (on_each-more k low n i j xs d (omega arith) g (omega arith))

  -- the next item is as it was
  pub on_each-next : (k low n i : ℕ) (xs : List A) (d : A) → i ≡ low + n → i < length xs → get_or (on_each f k low n xs) i d ≡ get_or xs i d
  on_each-next k low n i [] d e h = absurd (omega arith)
  on_each-next k zero zero i (x ∷ xs) d e h = refl
  on_each-next k zero (suc n) zero (x ∷ xs) d e h = absurd (omega arith)
  on_each-next k zero (suc n) (suc i) (x ∷ xs) d e h = on_each-next (suc k) zero n i xs d (omega arith) (omega arith)
  on_each-next k (suc low) n zero (x ∷ xs) d e h = absurd (omega arith)
  on_each-next k (suc low) n (suc i) (x ∷ xs) d e h = on_each-next k low n i xs d (omega arith) (omega arith)

  -- a loop that has changed n items changes the next one
  pub each_more : (low n : ℕ) (xs now : List A) (d new : A) → now ≡ on_each f 0 low n xs → d ≡ get_or now (low + n) d → low + n < length xs → new ≡ f n d → set now (low + n) new ≡ on_each f 0 low (n + 1) xs
  each_more low n xs now d new e at h is =
      let one : suc n ≡ n + 1 = omega arith in
      let zeroth : n ≡ 0 + n = omega arith in
      let here : d ≡ get_or xs (low + n) d = at ∙ ap (λ l. get_or l (low + n) d) e ∙ on_each-next 0 low n (low + n) xs d refl h in
      ap (λ l. set l (low + n) new) e ∙ ap (set (on_each f 0 low n xs) (low + n)) (is ∙ ap (f n) here)
      ∙ sym (on_each-more 0 low n (low + n) n xs d refl zeroth h) ∙ ap (λ m. on_each f 0 low m xs) one

  -- an item is one of the run and changed, or is as it was
  pub on_each-at : (k low n i : ℕ) (xs : List A) (was x : A) → slice_get xs i ≡ Some was → slice_get (on_each f k low n xs) i ≡ Some x → IsInRun f k low n i was x ⊎ IsOutOfRun low n i was x
  on_each-at k zero zero i xs was x there at = inr (record { out = inr (omega arith); is = (cc) })
  on_each-at k zero (suc n) i [] was x there at = absurd (cc)
  on_each-at k zero (suc n) zero (y ∷ ys) was x there at =
      let e : y ≡ was = cc in
      let g : f k y ≡ x = cc in
      let zeroth : k ≡ k + (0 - 0) = omega arith in
      inl (record { low_is = omega arith; high = omega arith; is = sym g ∙ ap (f k) e ∙ ap (λ m. f m was) zeroth })
  on_each-at k zero (suc n) (suc i) (y ∷ ys) was x there at = next (on_each-at (suc k) zero n i ys was x there at)
    where
      next : IsInRun f (suc k) zero n i was x ⊎ IsOutOfRun zero n i was x → IsInRun f k zero (suc n) (suc i) was x ⊎ IsOutOfRun zero (suc n) (suc i) was x
      next (inl r) = let l = r.low_is in let h = r.high in let m : suc k + (i - 0) ≡ k + (suc i - 0) = omega arith in inl (record { low_is = omega arith; high = omega arith; is = r.is ∙ ap (λ j. f j was) m })
      next (inr r) = inr (record { out = beyond r.out; is = r.is })
        where
          beyond : (i < 0) ⊎ (0 + n ≤ i) → (suc i < 0) ⊎ (0 + suc n ≤ suc i)
          beyond (inl h) = absurd (omega arith)
          beyond (inr h) = inr (omega arith)
  on_each-at k (suc low) n i [] was x there at = absurd (cc)
  on_each-at k (suc low) n zero (y ∷ ys) was x there at = inr (record { out = inl (omega arith); is = (cc) })
  on_each-at k (suc low) n (suc i) (y ∷ ys) was x there at = next (on_each-at k low n i ys was x there at)
    where
      next : IsInRun f k low n i was x ⊎ IsOutOfRun low n i was x → IsInRun f k (suc low) n (suc i) was x ⊎ IsOutOfRun (suc low) n (suc i) was x
      next (inl r) = let l = r.low_is in let h = r.high in let m : k + (i - low) ≡ k + (suc i - suc low) = omega arith in inl (record { low_is = omega arith; high = omega arith; is = r.is ∙ ap (λ j. f j was) m })
      next (inr r) = inr (record { out = beyond r.out; is = r.is })
        where
          beyond : (i < low) ⊎ (low + n ≤ i) → (suc i < suc low) ⊎ (suc low + n ≤ suc i)
          beyond (inl h) = inl (omega arith)
          beyond (inr h) = inr (omega arith)

  -- an item of the run is what its number makes of the one that was there
  pub on_each-in : (k low n j : ℕ) (xs : List A) (x : A) → j < n → slice_get (on_each f k low n xs) (low + j) ≡ Some x → IsMade f (k + j) x
  on_each-in k zero zero j xs x h at = absurd (omega arith)
  on_each-in k zero (suc n) j [] x h at = absurd (cc)
  on_each-in k zero (suc n) zero (y ∷ ys) x h at =
      let e : f k y ≡ x = cc in
      let z : k ≡ k + 0 = omega arith in
      record { was = y; is = sym e ∙ ap (λ i. f i y) z }
  on_each-in k zero (suc n) (suc j) (y ∷ ys) x h at =
      let z : 0 + suc j ≡ suc (0 + j) = omega arith in
      let m : suc k + j ≡ k + suc j = omega arith in
      let u = on_each-in (suc k) zero n j ys x (omega arith) (ap (slice_get (f k y ∷ on_each f (suc k) zero n ys)) (sym z) ∙ at) in
      record { was = u.was; is = u.is ∙ ap (λ i. f i u.was) m }
  on_each-in k (suc low) n j [] x h at = absurd (cc)
  on_each-in k (suc low) n j (y ∷ ys) x h at =
      let z : suc low + j ≡ suc (low + j) = omega arith in
      on_each-in k low n j ys x h (ap (slice_get (y ∷ on_each f k low n ys)) (sym z) ∙ at)

  -- what each item keeps, all keep
  pub map-on_each : {B : Type 0} (g : A → B) → ((j : ℕ) (x : A) → g (f j x) ≡ g x) → (k low n : ℕ) (xs : List A) → map g (on_each f k low n xs) ≡ map g xs
  map-on_each g h k zero zero xs = refl
  map-on_each g h k zero (suc n) [] = refl
  map-on_each g h k zero (suc n) (x ∷ xs) = ap (λ y. y ∷ map g (on_each f (suc k) zero n xs)) (h k x) ∙ ap (λ l. g x ∷ l) (map-on_each g h (suc k) zero n xs)
  map-on_each g h k (suc low) n [] = refl
  map-on_each g h k (suc low) n (x ∷ xs) = ap (λ l. g x ∷ l) (map-on_each g h k low n xs)

  -- what each item of a run keeps, all keep
  pub map-on_each_at : {B : Type 0} (g : A → B) (k low n : ℕ) (xs : List A) → low + n ≤ length xs → ((j : ℕ) (x : A) → j < n → slice_get xs (low + j) ≡ Some x → g (f (k + j) x) ≡ g x) → map g (on_each f k low n xs) ≡ map g xs
  map-on_each_at g k zero zero xs h e = refl
  map-on_each_at g k zero (suc n) [] h e = refl
  map-on_each_at g k zero (suc n) (x ∷ xs) h e =
      let z : k + 0 ≡ k = omega arith in
      let head : g (f k x) ≡ g x = ap (λ m. g (f m x)) (sym z) ∙ e 0 x (omega arith) refl in
      let tail = map-on_each_at g (suc k) zero n xs (omega arith)
      (λ j y l there. let m : suc k + j ≡ k + suc j = omega arith in let at : 0 + suc j ≡ suc (0 + j) = omega arith in ap (λ i. g (f i y)) m ∙ e (suc j) y (omega arith) (ap (slice_get (x ∷ xs)) at ∙ there)) in
      ap (λ y. y ∷ map g (on_each f (suc k) zero n xs)) head ∙ ap (λ l. g x ∷ l) tail
  map-on_each_at g k (suc low) n [] h e = refl
  map-on_each_at g k (suc low) n (x ∷ xs) h e =
      ap (λ l. g x ∷ l) (map-on_each_at g k low n xs (omega arith) (λ j y l there. let at : suc low + j ≡ suc (low + j) = omega arith in e j y l (ap (slice_get (x ∷ xs)) at ∙ there)))

  pub total-on_each : (w : A → ℕ) → ((j : ℕ) (x : A) → w (f j x) ≡ w x) → (k low n : ℕ) (xs : List A) → total w (on_each f k low n xs) ≡ total w xs
  total-on_each w h k zero zero xs = refl
  total-on_each w h k zero (suc n) [] = refl
  total-on_each w h k zero (suc n) (x ∷ xs) = omega (arith, h k x, total-on_each w h (suc k) zero n xs)
  total-on_each w h k (suc low) n [] = refl
  total-on_each w h k (suc low) n (x ∷ xs) = omega (arith, total-on_each w h k low n xs)

  pub All-on_each : (P : A → Type 0) → ((j : ℕ) (x : A) → P x → P (f j x)) → (k low n : ℕ) (xs : List A) → All P xs → All P (on_each f k low n xs)
  All-on_each P h k zero zero xs all = all
  All-on_each P h k zero (suc n) [] all = all
  All-on_each P h k zero (suc n) (x ∷ xs) all = All-cons P (f k x) (on_each f (suc k) zero n xs) (h k x (all 0 x (omega arith))) (All-on_each P h (suc k) zero n xs (All-tail P x xs all))
  All-on_each P h k (suc low) n [] all = all
  All-on_each P h k (suc low) n (x ∷ xs) all = All-cons P x (on_each f k low n xs) (all 0 x (omega arith)) (All-on_each P h k low n xs (All-tail P x xs all))

-- items that change twice change once, by both
pub on_each-twice : {A : Type 0} (f g : ℕ → A → A) (k low n : ℕ) (xs : List A) → on_each g k low n (on_each f k low n xs) ≡ on_each (λ j x. g j (f j x)) k low n xs
on_each-twice f g k zero zero xs = refl
on_each-twice f g k zero (suc n) [] = refl
on_each-twice f g k zero (suc n) (x ∷ xs) = ap (λ l. g k (f k x) ∷ l) (on_each-twice f g (suc k) zero n xs)
on_each-twice f g k (suc low) n [] = refl
on_each-twice f g k (suc low) n (x ∷ xs) = ap (λ l. x ∷ l) (on_each-twice f g k low n xs)

-- two changes that are alike on each item of a run
pub on_each-alike : {A : Type 0} (f g : ℕ → A → A) (k low n : ℕ) (xs : List A) → ((j : ℕ) (x : A) → j < n → f (k + j) x ≡ g (k + j) x) → on_each f k low n xs ≡ on_each g k low n xs
on_each-alike f g k zero zero xs h = refl
on_each-alike f g k zero (suc n) [] h = refl
on_each-alike f g k zero (suc n) (x ∷ xs) h =
    let z : k + 0 ≡ k = omega arith in
    let head : f k x ≡ g k x = ap (λ m. f m x) (sym z) ∙ h 0 x (omega arith) ∙ ap (λ m. g m x) z in
    let tail = on_each-alike f g (suc k) zero n xs (λ j y l. let m : suc k + j ≡ k + suc j = omega arith in ap (λ i. f i y) m ∙ h (suc j) y (omega arith) ∙ ap (λ i. g i y) (sym m)) in
    ap (λ y. y ∷ on_each f (suc k) zero n xs) head ∙ ap (λ l. g k x ∷ l) tail
on_each-alike f g k (suc low) n [] h = refl
on_each-alike f g k (suc low) n (x ∷ xs) h = ap (λ l. x ∷ l) (on_each-alike f g k low n xs h)

-- no item is counted in a run of none
pub count_on-none : {A : Type 0} (p : A → Bool) (low : ℕ) (xs : List A) → 0 ≡ count_on p low 0 xs
count_on-none p zero xs = refl
count_on-none p (suc low) [] = refl
count_on-none p (suc low) (x ∷ xs) = count_on-none p low xs

-- one more item is counted
pub count_on-more : {A : Type 0} (p : A → Bool) (low n k : ℕ) (xs : List A) (d : A) → k ≡ low + n → k < length xs → count_on p low (suc n) xs ≡ count_on p low n xs + one_where (p (get_or xs k d))
count_on-more p low n k [] d e h = absurd (omega arith)
count_on-more p zero zero zero (x ∷ xs) d e h = omega arith
count_on-more p zero zero (suc k) (x ∷ xs) d e h = absurd (omega arith)
count_on-more p zero (suc n) zero (x ∷ xs) d e h = absurd (omega arith)
count_on-more p zero (suc n) (suc k) (x ∷ xs) d e h = omega (arith, count_on-more p zero n k xs d (omega arith) (omega arith))
count_on-more p (suc low) n zero (x ∷ xs) d e h = absurd (omega arith)
count_on-more p (suc low) n (suc k) (x ∷ xs) d e h = count_on-more p low n k xs d (omega arith) (omega arith)
