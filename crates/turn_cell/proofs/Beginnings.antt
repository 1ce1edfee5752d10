-- Beginnings of one list.
use Rattle.std.proofs.Common.{◌≡◌, ℕ, ◌<◌, ◌≤◌, Bool, true, false, List, [], ◌∷◌, ◌++◌, length, refl, sym, ap, ◌∙◌, arith, append_assoc, append-nil, length-append}
use Rattle.std.specs.Prelude.{nat_lt, if◌then◌else◌}
use Rattle.std.proofs.lemmas.Bool.Decides.{nat_tests}
use Rattle.turn_cell.specs.Stakes.{total, Begins}
use Rattle.turn_cell.specs.Views.{longer}
use Rattle.turn_cell.specs.Steps.{shorter}
use Rattle.turn_cell.proofs.Sums.{total-append}

module _ {A : Type 0} where
  pub begins-self : (xs : List A) → Begins xs xs
  begins-self xs = ([], append-nil xs)

  pub begins-none : (xs : List A) → Begins [] xs
  begins-none xs = (xs, refl)

  pub begins-more : (xs ys : List A) → Begins xs (xs ++ ys)
  begins-more xs ys = (ys, refl)

  pub begins-then : (xs ys zs : List A) → Begins xs ys → Begins ys zs → Begins xs zs
  begins-then xs ys zs b c = (b.0 ++ c.0, sym (append_assoc xs b.0 c.0) ∙ ap (λ l. l ++ c.0) b.1 ∙ c.1)

  pub begins-length : (xs ys : List A) → Begins xs ys → length xs ≤ length ys
  begins-length xs ys b = let e : length (xs ++ b.0) ≡ length ys = ap length b.1 in omega (arith, length-append xs b.0)

  -- a beginning weighs no more
  pub begins-total : (f : A → ℕ) (xs ys : List A) → Begins xs ys → total f xs ≤ total f ys
  begins-total f xs ys b = let e : total f (xs ++ b.0) ≡ total f ys = ap (total f) b.1 in omega (arith, total-append f xs b.0)

  -- of two beginnings of one list the one that is no longer begins the other
  pub begins-shorter : (xs ys zs : List A) → Begins xs zs → Begins ys zs → length xs ≤ length ys → Begins xs ys
  begins-shorter xs ys zs b c le = shorter_of xs ys b.0 c.0 (b.1 ∙ sym c.1) le
    where
      shorter_of : (xs ys r s : List A) → xs ++ r ≡ ys ++ s → length xs ≤ length ys → Begins xs ys
      shorter_of [] ys r s e le = begins-none ys
      shorter_of (x ∷ xs) [] r s e le = absurd (omega arith)
      shorter_of (x ∷ xs) (y ∷ ys) r s e le =
          let same : x ≡ y = cc in
          let rest : xs ++ r ≡ ys ++ s = cc in
          let b = shorter_of xs ys r s rest (omega arith) in
          (b.0, λ i. same i ∷ b.1 i)

  -- a beginning that is as long is the whole
  pub begins-whole : (xs ys : List A) → Begins xs ys → length ys ≤ length xs → xs ≡ ys
  begins-whole xs ys b le = whole_of xs b.0 ys b.1 le
    where
      whole_of : (xs r ys : List A) → xs ++ r ≡ ys → length ys ≤ length xs → xs ≡ ys
      whole_of xs [] ys e le = sym (append-nil xs) ∙ e
      whole_of xs (r ∷ rs) ys e le = let n : length (xs ++ (r ∷ rs)) ≡ length ys = ap length e in absurd (omega (arith, length-append xs (r ∷ rs)))

  by-length : (P : List A → Type 0) (xs ys : List A) → (length xs < length ys → P ys) → (length ys ≤ length xs → P xs) → P (longer xs ys)
  by-length P xs ys less more = by (nat_lt (length xs) (length ys)) refl
    where
      by : (b : Bool) → nat_lt (length xs) (length ys) ≡ b → P (if b then ys else xs)
      by true e = less (grind (arith, nat_tests))
      by false e = more (grind (arith, nat_tests))

  by-length' : (P : List A → Type 0) (xs ys : List A) → (length xs < length ys → P xs) → (length ys ≤ length xs → P ys) → P (shorter xs ys)
  by-length' P xs ys less more = by (nat_lt (length xs) (length ys)) refl
    where
      by : (b : Bool) → nat_lt (length xs) (length ys) ≡ b → P (if b then xs else ys)
      by true e = less (grind (arith, nat_tests))
      by false e = more (grind (arith, nat_tests))

  pub begins-longer : (xs ys zs : List A) → Begins xs zs → Begins ys zs → Begins (longer xs ys) zs
  begins-longer xs ys zs b c = by-length (λ l. Begins l zs) xs ys (λ _. c) (λ _. b)

  pub begins-of_shorter : (xs ys zs : List A) → Begins xs zs → Begins ys zs → Begins (shorter xs ys) zs
  begins-of_shorter xs ys zs b c = by-length' (λ l. Begins l zs) xs ys (λ _. b) (λ _. c)

  -- the longer of two beginnings is the whole, where one of them is
  pub longer-first : (xs ys zs : List A) → Begins ys zs → xs ≡ zs → longer xs ys ≡ zs
  longer-first xs ys zs b e =
      by-length (λ l. l ≡ zs) xs ys (λ less. absurd (let n : length xs ≡ length zs = ap length e in let m = begins-length ys zs b in omega arith)) (λ _. e)

  pub longer-second : (xs ys zs : List A) → Begins xs zs → ys ≡ zs → longer xs ys ≡ zs
  longer-second xs ys zs b e =
      by-length (λ l. l ≡ zs) xs ys (λ _. e) (λ more. begins-whole xs zs b (let n : length ys ≡ length zs = ap length e in omega arith))

  -- the shorter list is no longer than the longer one
  pub shorter-length : (xs ys : List A) → length (shorter xs ys) ≤ length (longer xs ys)
  shorter-length xs ys = by (nat_lt (length xs) (length ys)) refl
    where
      by : (b : Bool) → nat_lt (length xs) (length ys) ≡ b → length (if b then xs else ys) ≤ length (if b then ys else xs)
      by true e = grind (arith, nat_tests)
      by false e = grind (arith, nat_tests)

  -- where the shorter of two lists begins the longer, both do
  pub begins-both : (xs ys : List A) → Begins (shorter xs ys) (longer xs ys) → Begins xs (longer xs ys) × Begins ys (longer xs ys)
  begins-both xs ys = by (nat_lt (length xs) (length ys))
    where
      by : (b : Bool) → Begins (if b then xs else ys) (if b then ys else xs) → Begins xs (if b then ys else xs) × Begins ys (if b then ys else xs)
      by true h = (h, begins-self ys)
      by false h = (begins-self xs, h)
