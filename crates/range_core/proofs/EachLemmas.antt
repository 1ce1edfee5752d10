-- Single items of a run that was changed.
use Rattle.std.proofs.Common.{◌≡◌, ℕ, zero, suc, ◌+◌, ◌-◌, ◌<◌, ◌≤◌, ⊎_elim, Some, List, [], ◌∷◌, length, get_or, refl, ◌∙◌, ap, arith}
use Rattle.std.specs.Prelude.{slice_get}
use Rattle.std.proofs.lemmas.Option.{slice_get_within, slice_get-get_or}
use Rattle.range_core.specs.OnRun.{on_each}
use Rattle.range_core.proofs.OnRunLemmas.{IsInRun, IsOutOfRun, length-on_each, on_each-at}

module _ {A : Type 0} (f : ℕ → A → A) (low n k : ℕ) (xs : List A) where
  -- the k-th item of the run is what its number makes of it
  pub in_run-is : (was x : A) → k < n → slice_get xs (low + k) ≡ Some was → slice_get (on_each f 0 low n xs) (low + k) ≡ Some x → x ≡ f k was
  in_run-is was x l there at =
      ⊎_elim
      (λ (u : IsInRun f 0 low n (low + k) was x). let z : 0 + (low + k - low) ≡ k = omega arith in u.is ∙ ap (λ j. f j was) z)
      (λ (u : IsOutOfRun low n (low + k) was x). absurd (⊎_elim (λ (h : low + k < low). let z : ⊥ = absurd (omega arith) in z) (λ (h : low + n ≤ low + k). let z : ⊥ = absurd (omega arith) in z) u.out))
      (on_each-at f 0 low n (low + k) xs was x there at)

  pub in_run-there : (was : A) → k < n → slice_get xs (low + k) ≡ Some was → slice_get (on_each f 0 low n xs) (low + k) ≡ Some (f k was)
  in_run-there was l there =
      let within : low + k < length xs = slice_get_within xs (low + k) was there in
      let many = length-on_each f 0 low n xs in
      let x : A = get_or (on_each f 0 low n xs) (low + k) was in
      let at : slice_get (on_each f 0 low n xs) (low + k) ≡ Some x = slice_get-get_or (on_each f 0 low n xs) (low + k) was (omega arith) in
      at ∙ ap Some (in_run-is was x l there at)

-- a list has an item at each place before its end
pub record IsThere {A : Type 0} (xs : List A) (i : ℕ) : Type 0 where
  pub item : A
  pub here : slice_get xs i ≡ Some item

pub is_there : {A : Type 0} (xs : List A) (i : ℕ) → i < length xs → IsThere xs i
is_there [] i l = absurd (omega arith)
is_there (x ∷ xs) zero l = record { item = x; here = refl }
is_there (x ∷ xs) (suc i) l = let r = is_there xs i (omega arith) in record { item = r.item; here = r.here }
