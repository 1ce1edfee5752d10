-- Marks of numbers that pass a test.
use Rattle.std.proofs.Common.{◌≡◌, ℕ, zero, suc, ◌+◌, ◌<◌, ◌≤◌, Bool, false, List, ◌∷◌, length, take, drop, get_or, refl, arith, drop-cons, add-one}
use Rattle.std.specs.List.{list_any, range_with_len}

pub any-marks : (marks : List Bool) (test : ℕ → Bool) (n low : ℕ) → low + n ≤ length marks → ((i : ℕ) → i < length marks → get_or marks i false ≡ test i)
    → list_any (λ b. b) (take n (drop low marks)) ≡ list_any test (range_with_len low n)
any-marks marks test zero low h e = refl
any-marks marks test (suc n) low h e =
    let lt : low < length marks = omega arith in
    let here : drop low marks ≡ get_or marks low false ∷ drop (suc low) marks = drop-cons marks low false lt in
    let is : get_or marks low false ≡ test low = e low lt in
    let more : list_any (λ b. b) (take n (drop (low + 1) marks)) ≡ list_any test (range_with_len (low + 1) n) = any-marks marks test n (low + 1) (omega arith) e in
    let later : list_any (λ b. b) (take n (drop (suc low) marks)) ≡ list_any test (range_with_len (low + 1) n) = rw (← add-one low) more in
    rw (here, is, later) refl
