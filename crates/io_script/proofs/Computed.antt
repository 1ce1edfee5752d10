-- Facts of all numbers below a bound, held against each by computing.
use Rattle.std.proofs.Common.{◌≡◌, ℕ, zero, suc, ◌<◌, Bool, true, false, ◌&&◌, refl, arith, inl, inr}
use Rattle.std.proofs.lemmas.Bool.{cases_eq}

-- a test passes at each number below this one
abbrev pub passes_below : (ℕ → Bool) → ℕ → Bool
passes_below test zero = true
passes_below test (suc n) = test n && passes_below test n

both_of : (x rest : Bool) → (x && rest) ≡ true → (x ≡ true) × (rest ≡ true)
both_of true rest h = (refl, h)
both_of false rest h = cc

pub passes_at : (test : ℕ → Bool) (n : ℕ) → passes_below test n ≡ true → (k : ℕ) → k < n → test k ≡ true
passes_at test zero h k lt = absurd (omega arith)
passes_at test (suc n) h k lt =
    let both = both_of (test n) (passes_below test n) h in
    elim (cases_eq k n) [ inl same ↦ rw same both.0 | inr other ↦ passes_at test n both.1 k (omega arith) ]
