-- A list is changed place by place from the front.
use Rattle.std.proofs.Common.{◌≡◌, ℕ, zero, suc, ◌+◌, ◌<◌, get_or, arith, List, [], ◌∷◌, ◌++◌, length, map, set, take, Some, refl, sym, ap, ◌∙◌}
use Rattle.std.specs.Prelude.{slice_get}
use Rattle.std.proofs.lemmas.List.{map-append, map-set}
use Rattle.mount_parts.proofs.Places.{map-there}
use Rattle.mini_fs.specs.Joins.{paired}
use Rattle.std.proofs.lemmas.Option.{slice_get_read}
use Rattle.std.proofs.lemmas.Option.{none-some}

module _ {A : Type 0} where
  -- the first so many are changed
  abbrev pub on_first : (A → A) → ℕ → List A → List A
  on_first f zero xs = xs
  on_first f (suc i) [] = []
  on_first f (suc i) (x ∷ xs) = f x ∷ on_first f i xs

  pub on_first-at : (f : A → A) (i : ℕ) (xs : List A) → slice_get (on_first f i xs) i ≡ slice_get xs i
  on_first-at f zero xs = refl
  on_first-at f (suc i) [] = refl
  on_first-at f (suc i) (x ∷ xs) = on_first-at f i xs

  pub on_first-next : (f : A → A) (i : ℕ) (xs : List A) (x y : A) → slice_get xs i ≡ Some x → y ≡ f x → set (on_first f i xs) i y ≡ on_first f (suc i) xs
  on_first-next f i [] x y at is = absurd (none-some x at)
  on_first-next f zero (z ∷ xs) x y at is = let e : z ≡ x = cc in ap (λ w. w ∷ xs) (is ∙ sym (ap f e))
  on_first-next f (suc i) (z ∷ xs) x y at is = ap (λ ws. f z ∷ ws) (on_first-next f i xs x y at is)

  pub on_first-all : (f : A → A) (xs : List A) → on_first f (length xs) xs ≡ map f xs
  on_first-all f [] = refl
  on_first-all f (x ∷ xs) = ap (λ ws. f x ∷ ws) (on_first-all f xs)

  pub taken-next : {B : Type 0} (g : A → B) (i : ℕ) (xs : List A) (x : A) (y : B) → slice_get xs i ≡ Some x → y ≡ g x → take i (map g xs) ++ y ∷ [] ≡ take (suc i) (map g xs)
  taken-next g i [] x y at is = absurd (none-some x at)
  taken-next g zero (z ∷ xs) x y at is = let e : z ≡ x = cc in ap (λ w. w ∷ []) (is ∙ sym (ap g e))
  taken-next g (suc i) (z ∷ xs) x y at is = ap (λ ws. g z ∷ ws) (taken-next g i xs x y at is)

  pub taken-all : {B : Type 0} (g : A → B) (xs : List A) → take (length xs) (map g xs) ≡ map g xs
  taken-all g [] = refl
  taken-all g (x ∷ xs) = ap (λ ws. g x ∷ ws) (taken-all g xs)

-- Seats are changed place by place, and seen by `view`
module _ {S V : Type 0} (view : S → V) (f : V → V) where
  pub part-at : (ss : List S) (xs : List V) (i : ℕ) (s : S) → map view ss ≡ on_first f i xs → i < length ss → s ≡ get_or ss i s → slice_get xs i ≡ Some (view s)
  part-at ss xs i s is below at = sym (on_first-at f i xs) ∙ ap (λ l. slice_get l i) (sym is) ∙ map-there view ss i s (slice_get_read ss (length ss) i s refl below at)

  pub part-kept : (ss : List S) (xs : List V) (i : ℕ) (s t : S) → map view ss ≡ on_first f i xs → slice_get xs i ≡ Some (view s) → view t ≡ f (view s) → map view (set ss i t) ≡ on_first f (i + 1) xs
  part-kept ss xs i s t is here did = map-set view ss i t ∙ ap (λ l. set l i (view t)) is ∙ on_first-next f i xs (view s) (view t) here did ∙ ap (λ n. on_first f n xs) (let e : suc i ≡ i + 1 = omega arith in e)

  pub part-all : (ss : List S) (xs : List V) (i : ℕ) → map view ss ≡ on_first f i xs → i ≡ length xs → map view ss ≡ map f xs
  part-all ss xs i is all = is ∙ ap (λ n. on_first f n xs) all ∙ on_first-all f xs

  pub part-made : (made : List S) (xs : List V) (i : ℕ) (x : V) (t : S) → map view made ≡ take i (map f xs) → slice_get xs i ≡ Some x → view t ≡ f x → map view (made ++ t ∷ []) ≡ take (i + 1) (map f xs)
  part-made made xs i x t is here did = map-append view made (t ∷ []) ∙ ap (λ l. l ++ view t ∷ []) is ∙ taken-next f i xs x (view t) here did ∙ ap (λ n. take n (map f xs)) (let e : suc i ≡ i + 1 = omega arith in e)

  pub part-made-all : (made : List S) (xs : List V) (i : ℕ) → map view made ≡ take i (map f xs) → i ≡ length xs → map view made ≡ map f xs
  part-made-all made xs i is all = is ∙ ap (λ n. take n (map f xs)) all ∙ taken-all f xs

module _ {A B : Type 0} (f : A → B → A) where
  -- the first so many of two lists are joined, place by place
  abbrev pub joined_first : ℕ → List A → List B → List A
  joined_first zero xs ys = xs
  joined_first (suc i) [] ys = []
  joined_first (suc i) (x ∷ xs) [] = x ∷ xs
  joined_first (suc i) (x ∷ xs) (y ∷ ys) = f x y ∷ joined_first i xs ys

  pub joined_first-at : (i : ℕ) (xs : List A) (ys : List B) → slice_get (joined_first i xs ys) i ≡ slice_get xs i
  joined_first-at zero xs ys = refl
  joined_first-at (suc i) [] ys = refl
  joined_first-at (suc i) (x ∷ xs) [] = refl
  joined_first-at (suc i) (x ∷ xs) (y ∷ ys) = joined_first-at i xs ys

  pub joined_first-next : (i : ℕ) (xs : List A) (ys : List B) (x z : A) (y : B) → slice_get xs i ≡ Some x → slice_get ys i ≡ Some y → z ≡ f x y → set (joined_first i xs ys) i z ≡ joined_first (suc i) xs ys
  joined_first-next i [] ys x z y at and is = absurd (none-some x at)
  joined_first-next i (a ∷ xs) [] x z y at and is = absurd (none-some y and)
  joined_first-next zero (a ∷ xs) (b ∷ ys) x z y at and is = let e : a ≡ x = cc in let h : b ≡ y = cc in ap (λ w. w ∷ xs) (is ∙ (λ j. f (sym e j) (sym h j)))
  joined_first-next (suc i) (a ∷ xs) (b ∷ ys) x z y at and is = ap (λ ws. f a b ∷ ws) (joined_first-next i xs ys x z y at and is)

  pub joined_first-all : (xs : List A) (ys : List B) → joined_first (length xs) xs ys ≡ paired f xs ys
  joined_first-all [] ys = refl
  joined_first-all (x ∷ xs) [] = refl
  joined_first-all (x ∷ xs) (y ∷ ys) = ap (λ ws. f x y ∷ ws) (joined_first-all xs ys)

-- Seats are joined place by place, and seen by `view`
module _ {S V : Type 0} (view : S → V) (f : V → V → V) where
  pub join-at : (ss : List S) (xs ys : List V) (i : ℕ) (s : S) → map view ss ≡ joined_first f i xs ys → i < length ss → s ≡ get_or ss i s → slice_get xs i ≡ Some (view s)
  join-at ss xs ys i s is below at = sym (joined_first-at f i xs ys) ∙ ap (λ l. slice_get l i) (sym is) ∙ map-there view ss i s (slice_get_read ss (length ss) i s refl below at)

  pub join-next : (ss : List S) (xs ys : List V) (i : ℕ) (s t : S) (y : V) → map view ss ≡ joined_first f i xs ys → slice_get xs i ≡ Some (view s) → slice_get ys i ≡ Some y → view t ≡ f (view s) y → map view (set ss i t) ≡ joined_first f (i + 1) xs ys
  join-next ss xs ys i s t y is here there did = map-set view ss i t ∙ ap (λ l. set l i (view t)) is ∙ joined_first-next f i xs ys (view s) (view t) y here there did ∙ ap (λ n. joined_first f n xs ys) (let e : suc i ≡ i + 1 = omega arith in e)

  pub join-all : (ss : List S) (xs ys : List V) (i : ℕ) → map view ss ≡ joined_first f i xs ys → i ≡ length xs → map view ss ≡ paired f xs ys
  join-all ss xs ys i is all = is ∙ ap (λ n. joined_first f n xs ys) all ∙ joined_first-all f xs ys
