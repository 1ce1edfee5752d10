-- Tests of each item of a list that a function gives.
use Rattle.std.proofs.Common.{◌≡◌, ℕ, zero, suc, ◌+◌, ◌<◌, ◌≤◌, Bool, true, length, refl, ap, arith}
use Rattle.io_model.specs.Lists.{each_from}
use Rattle.iomap_replay.specs.Runs.{tabulated}

-- what holds of each item holds of the list
pub each_from-tabulated : {A : Type 0} (test : ℕ → A → Bool) (f : ℕ → A) (n m : ℕ) → ((i : ℕ) → n ≤ i → i < n + m → test i (f i) ≡ true)
    → each_from test n (tabulated f n m) ≡ true
each_from-tabulated test f n zero all = refl
each_from-tabulated test f n (suc m) all =
    rw (all n (omega arith) (omega arith)) (each_from-tabulated test f (n + 1) m (λ i low high. all i (omega arith) (omega arith)))

pub length-tabulated : {A : Type 0} (f : ℕ → A) (n m : ℕ) → length (tabulated f n m) ≡ m
length-tabulated f n zero = refl
length-tabulated f n (suc m) = ap suc (length-tabulated f (n + 1) m)
