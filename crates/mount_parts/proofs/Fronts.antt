-- A list is taken from its front.
use Rattle.std.proofs.Common.{◌≡◌, ℕ, zero, suc, ◌+◌, arith, List, [], ◌∷◌, ◌++◌, take, Some, sym, ap, ◌∙◌, drop}
use Rattle.std.specs.Prelude.{slice_get}
use Rattle.std.proofs.Math.Seq.{take-add}
use Rattle.std.proofs.lemmas.List.{drop-drop}

module _ {A : Type 0} where
  -- what stands in front of the rest of a list, and what is left behind it
  pub front-of : (xs : List A) (i : ℕ) (x : A) (rest : List A) → drop i xs ≡ x ∷ rest → slice_get xs i ≡ Some x
  front-of [] zero x rest is = ap (λ l. slice_get l 0) is
  front-of [] (suc i) x rest is = ap (λ l. slice_get l 0) is
  front-of (y ∷ xs) zero x rest is = ap (λ l. slice_get l 0) is
  front-of (y ∷ xs) (suc i) x rest is = front-of xs i x rest is

  front-drop : (xs : List A) (i : ℕ) (x : A) (rest : List A) → drop i xs ≡ x ∷ rest → rest ≡ drop (suc i) xs
  front-drop [] zero x rest is = sym (ap (λ l. drop 1 l) is)
  front-drop [] (suc i) x rest is = sym (ap (λ l. drop 1 l) is)
  front-drop (y ∷ xs) zero x rest is = sym (ap (λ l. drop 1 l) is)
  front-drop (y ∷ xs) (suc i) x rest is = front-drop xs i x rest is

  pub front-rest : (xs : List A) (i : ℕ) (x : A) (rest : List A) → drop i xs ≡ x ∷ rest → rest ≡ drop (i + 1) xs
  front-rest xs i x rest is = front-drop xs i x rest is ∙ ap (λ n. drop n xs) (let e : suc i ≡ i + 1 = omega arith in e)

  -- the items from the front, and what is left behind them, with one taken more
  pub taken-more : (n : ℕ) (old held taken more : List A) → taken ≡ take n old → held ≡ drop n old → more ≡ taken ++ take 1 held → more ≡ take (n + 1) old
  taken-more n old held taken more t h e = e ∙ ap (λ l. l ++ take 1 held) t ∙ ap (λ l. take n old ++ take 1 l) h ∙ sym (take-add n 1 old)

  pub taken-drop : (n : ℕ) (old held rest : List A) → held ≡ drop n old → rest ≡ drop 1 held → rest ≡ drop (n + 1) old
  taken-drop n old held rest h r = r ∙ ap (drop 1) h ∙ drop-drop 1 n old
