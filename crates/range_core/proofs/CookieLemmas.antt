-- How a cookie rises with the number of kinds that change.
use Rattle.std.proofs.Common.{◌≡◌, ℕ, ◌+◌, ◌≤◌, Bool, true, false, nat_lt, refl, ap, arith}
use Rattle.std.proofs.lemmas.Bool.{ltb-false, ltb-true}
use Rattle.range_core.specs.EntryCounts.{one_where}

-- a cookie that has not risen tells that nothing changed
pub unrisen : (cookie k : ℕ) → cookie + one_where (nat_lt 0 k) ≡ cookie → k ≡ 0
unrisen cookie k e = at (nat_lt 0 k) refl
  where
    at : (t : Bool) → nat_lt 0 k ≡ t → k ≡ 0
    at true t = absurd (let one : one_where (nat_lt 0 k) ≡ 1 = ap one_where t in omega arith)
    at false t = let none = ltb-false 0 k t in omega arith

-- it rises by no more than the number of what changed
pub rises-few : (k : ℕ) → one_where (nat_lt 0 k) ≤ k
rises-few k = at (nat_lt 0 k) refl
  where
    at : (t : Bool) → nat_lt 0 k ≡ t → one_where (nat_lt 0 k) ≤ k
    at true t = let one : one_where (nat_lt 0 k) ≡ 1 = ap one_where t in let more = ltb-true 0 k t in omega arith
    at false t = let none : one_where (nat_lt 0 k) ≡ 0 = ap one_where t in omega arith
