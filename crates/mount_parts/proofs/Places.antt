-- One place of a list is read and written.
use Rattle.std.proofs.Common.{◌≡◌, ◌≢◌, ℕ, zero, suc, ◌<◌, List, [], ◌∷◌, length, map, set, Some, refl, sym, ap, subst, ◌∙◌, arith}
use Rattle.std.proofs.lemmas.List.{length-map}
use Rattle.std.specs.Prelude.{slice_get, All}
use Rattle.std.proofs.lemmas.Option.{none-some, get_or_from_slice_get}

module _ {A : Type 0} where
  pub there : (xs : List A) (i : ℕ) → i < length xs → (x : A) × (slice_get xs i ≡ Some x)
  there [] i below = absurd (omega arith)
  there (x ∷ xs) zero below = (x, refl)
  there (x ∷ xs) (suc i) below = there xs i (omega arith)

  pub within : (xs : List A) (i : ℕ) (x : A) → slice_get xs i ≡ Some x → i < length xs
  within [] i x is = absurd (none-some x is)
  within (y ∷ xs) zero x is = omega arith
  within (y ∷ xs) (suc i) x is = let h = within xs i x is in omega arith

  pub set-same : (xs : List A) (i : ℕ) (x y : A) → slice_get xs i ≡ Some x → slice_get (set xs i y) i ≡ Some y
  set-same [] i x y is = absurd (none-some x is)
  set-same (z ∷ xs) zero x y is = refl
  set-same (z ∷ xs) (suc i) x y is = set-same xs i x y is

  pub there-set : (xs : List A) (i : ℕ) (y : A) → i < length xs → slice_get (set xs i y) i ≡ Some y
  there-set [] i y below = absurd (omega arith)
  there-set (z ∷ xs) zero y below = refl
  there-set (z ∷ xs) (suc i) y below = there-set xs i y (omega arith)

  pub set-other : (xs : List A) (i j : ℕ) (y : A) → j ≢ i → slice_get (set xs i y) j ≡ slice_get xs j
  set-other [] i j y other = refl
  set-other (x ∷ xs) zero zero y other = absurd (other refl)
  set-other (x ∷ xs) zero (suc j) y other = refl
  set-other (x ∷ xs) (suc i) zero y other = refl
  set-other (x ∷ xs) (suc i) (suc j) y other = set-other xs i j y (λ e. other (ap suc e))

  pub set-length : (xs : List A) (i : ℕ) (y : A) → length (set xs i y) ≡ length xs
  set-length [] i y = refl
  set-length (x ∷ xs) zero y = refl
  set-length (x ∷ xs) (suc i) y = ap suc (set-length xs i y)

  pub map-kept : {B : Type 0} (f : A → B) (xs : List A) (i : ℕ) (x y : A) → slice_get xs i ≡ Some x → f y ≡ f x → map f (set xs i y) ≡ map f xs
  map-kept f [] i x y is same = refl
  map-kept f (z ∷ xs) zero x y is same = let e : z ≡ x = cc in ap (λ b. b ∷ map f xs) (same ∙ sym (ap f e))
  map-kept f (z ∷ xs) (suc i) x y is same = ap (λ bs. f z ∷ bs) (map-kept f xs i x y is same)

  pub map-there : {B : Type 0} (f : A → B) (xs : List A) (i : ℕ) (x : A) → slice_get xs i ≡ Some x → slice_get (map f xs) i ≡ Some (f x)
  map-there f [] i x is = absurd (none-some x is)
  map-there f (z ∷ xs) zero x is = ap (λ o. Some o) (ap f (let e : z ≡ x = cc in e))
  map-there f (z ∷ xs) (suc i) x is = map-there f xs i x is

  -- where two lists are seen alike, what stands in one place is seen alike
  pub seen-alike : {B D : Type 0} (f : A → D) (g : B → D) (xs : List A) (ys : List B) (i : ℕ) (x : A) (y : B) → map f xs ≡ map g ys → slice_get xs i ≡ Some x → slice_get ys i ≡ Some y → f x ≡ g y
  seen-alike f g [] ys i x y same isx isy = absurd (none-some x isx)
  seen-alike f g (a ∷ xs) [] i x y same isx isy = absurd (none-some y isy)
  seen-alike f g (a ∷ xs) (b ∷ ys) zero x y same isx isy =
      let e : a ≡ x = cc in
      let h : b ≡ y = cc in
      let s : f a ≡ g b = cc in
      sym (ap f e) ∙ s ∙ ap g h
  seen-alike f g (a ∷ xs) (b ∷ ys) (suc i) x y same isx isy = let s : map f xs ≡ map g ys = cc in seen-alike f g xs ys i x y s isx isy

  pub same-length : {B D : Type 0} (f : A → D) (g : B → D) (xs : List A) (ys : List B) → map f xs ≡ map g ys → length xs ≡ length ys
  same-length f g xs ys same = sym (length-map xs f) ∙ ap length same ∙ length-map ys g

  pub all-at : (P : A → Type 0) (xs : List A) (i : ℕ) (x : A) → All P xs → slice_get xs i ≡ Some x → P x
  all-at P xs i x all is = subst P (get_or_from_slice_get xs i x x is) (all i x (within xs i x is))

  pub same-at : {B : Type 0} (f : A → B) (xs : List A) (b : B) (i : ℕ) (x : A) → All (λ y. f y ≡ b) xs → slice_get xs i ≡ Some x → f x ≡ b
  same-at f xs b i x all is = all-at (λ y. f y ≡ b) xs i x all is

  -- where two lists are seen alike, they are as long, however they are seen
  pub seen-long : {B D S C : Type 0} (f : A → D) (g : B → D) (u : A → S) (v : B → C) (xs : List A) (ys : List B) → map f xs ≡ map g ys → length (map u xs) ≡ length (map v ys)
  seen-long f g u v xs ys same = length-map xs u ∙ same-length f g xs ys same ∙ sym (length-map ys v)
