-- Lists of seats, seen whole and in part.
use Rattle.std.proofs.Common.{◌≡◌, ℕ, ◌<◌, List, [], ◌∷◌, length, map, get_or, Some, refl, sym, ap, ◌∙◌, arith}
use Rattle.std.specs.Prelude.{slice_get, All}
use Rattle.std.proofs.lemmas.List.{length-map}
use Rattle.std.proofs.lemmas.Option.{slice_get-get_or}
use Rattle.mount_parts.proofs.Places.{map-there, there, within}

module _ {A : Type 0} where
  pub all-from : (P : A → Type 0) (xs : List A) → ((k : ℕ) (x : A) → slice_get xs k ≡ Some x → P x) → All P xs
  all-from P xs each k d below = each k (get_or xs k d) (slice_get-get_or xs k d below)

module _ {S V B : Type 0} where
  pub map-map : (h : V → B) (place : S → V) (ss : List S) → map h (map place ss) ≡ map (λ s. h (place s)) ss
  map-map h place [] = refl
  map-map h place (s ∷ ss) = ap (λ l. h (place s) ∷ l) (map-map h place ss)

  -- what a list of seats is changed by is seen in each part of it
  pub seen-through : (place : S → V) (f : V → V) (h : V → B) (k : B → B) → ((v : V) → h (f v) ≡ k (h v)) → (xs ys : List S) → map place ys ≡ map f (map place xs) → map (λ s. h (place s)) ys ≡ map k (map (λ s. h (place s)) xs)
  seen-through place f h k same xs ys is = sym (map-map h place ys) ∙ ap (map h) is ∙ each xs
    where
      each : (ss : List S) → map h (map f (map place ss)) ≡ map k (map (λ s. h (place s)) ss)
      each [] = refl
      each (s ∷ ss) = (λ j. same (place s) j ∷ each ss j)

module _ {S V : Type 0} (place : S → V) (f : V → V) (xs ys : List S) (is : map place ys ≡ map f (map place xs)) where
  -- a seat is its predecessor changed
  pub made-of : (k : ℕ) (y : S) → slice_get ys k ≡ Some y → (x : S) × (slice_get xs k ≡ Some x) × (place y ≡ f (place x))
  made-of k y at =
      let below : k < length xs = (let w = within ys k y at in let e : length (map place ys) ≡ length (map f (map place xs)) = ap length is in omega (arith, length-map ys place, length-map xs place, length-map (map place xs) f)) in
      let x = there xs k below in
      let old = map-there f (map place xs) k (place x.0) (map-there place xs k x.0 x.1) in
      let new = map-there place ys k y at in
      let both : Some (place y) ≡ Some (f (place x.0)) = sym new ∙ ap (λ l. slice_get l k) is ∙ old in
      (x.0, x.1, cc)
