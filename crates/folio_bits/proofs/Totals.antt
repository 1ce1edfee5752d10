-- Sums over what the seats know, after one seat changes or one comes.
use Rattle.std.proofs.Common.{◌≡◌, ◌≢◌, ℕ, zero, suc, ◌+◌, ◌≤◌, List, [], ◌∷◌, ◌++◌, set, sym, refl, ap, arith}
use mathlib.Core.Option.{some, some-injective, some-ne-none}
use lib.ListN.{get_elem?}
use Rattle.folio_bits.specs.declared.rule.Known.{Known}
use Rattle.folio_bits.specs.Counting.{total}

pub total-set : (f : Known → ℕ) (l : List Known) (i : ℕ) (v w : Known) → get_elem? l i ≡ some v → total f (set l i w) + f v ≡ total f l + f w
total-set f [] i v w e = absurd (some-ne-none v (sym e))
total-set f (x ∷ xs) zero v w e = let is : f x ≡ f v = ap f (some-injective x v e) in omega arith
total-set f (x ∷ xs) (suc i) v w e = let r = total-set f xs i v w e in omega arith

pub total-snoc : (f : Known → ℕ) (l : List Known) (v : Known) → total f (l ++ v ∷ []) ≡ total f l + f v
total-snoc f [] v = omega arith
total-snoc f (x ∷ xs) v = let r = total-snoc f xs v in omega arith

-- the weight of one seat is in the sum
pub one_weighs : (f : Known → ℕ) (l : List Known) (i : ℕ) (v : Known) → get_elem? l i ≡ some v → f v ≤ total f l
one_weighs f [] i v e = absurd (some-ne-none v (sym e))
one_weighs f (x ∷ xs) zero v e = let is : f x ≡ f v = ap f (some-injective x v e) in omega arith
one_weighs f (x ∷ xs) (suc i) v e = let r = one_weighs f xs i v e in omega arith

-- and so are those of two
pub two_weigh : (f : Known → ℕ) (l : List Known) (i j : ℕ) (v w : Known) → i ≢ j → get_elem? l i ≡ some v → get_elem? l j ≡ some w → f v + f w ≤ total f l
two_weigh f [] i j v w n e h = absurd (some-ne-none v (sym e))
two_weigh f (x ∷ xs) zero zero v w n e h = absurd (n refl)
two_weigh f (x ∷ xs) zero (suc j) v w n e h =
    let is : f x ≡ f v = ap f (some-injective x v e) in let r = one_weighs f xs j w h in omega arith
two_weigh f (x ∷ xs) (suc i) zero v w n e h =
    let is : f x ≡ f w = ap f (some-injective x w h) in let r = one_weighs f xs i v e in omega arith
two_weigh f (x ∷ xs) (suc i) (suc j) v w n e h = let r = two_weigh f xs i j v w (λ same. n (ap suc same)) e h in omega arith

-- where no seat weighs anything, nor does the sum
pub none_weighs : (f : Known → ℕ) (l : List Known) → ((j : ℕ) (w : Known) → get_elem? l j ≡ some w → f w ≡ 0) → total f l ≡ 0
none_weighs f [] h = refl
none_weighs f (x ∷ xs) h =
    let here = h 0 x refl in let rest = none_weighs f xs (λ j w e. h (suc j) w e) in omega arith
