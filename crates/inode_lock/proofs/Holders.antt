-- How many seats hold a class, after one seat changes or one comes.
use Rattle.std.proofs.Common.{◌≡◌, ◌≢◌, ℕ, zero, suc, ◌+◌, ◌≤◌, List, [], ◌∷◌, ◌++◌, set, sym, refl, ap, arith}
use mathlib.Core.Option.{some, some-injective, some-ne-none}
use lib.ListN.{get_elem?}
use Rattle.inode_lock.specs.declared.word.Class.{Class}
use Rattle.inode_lock.specs.declared.steps.Known.{Known}
use Rattle.inode_lock.specs.Exclusion.{weight, holders}

pub holders-set : (c : Class) (l : List Known) (i : ℕ) (v w : Known) → get_elem? l i ≡ some v → holders c (set l i w) + weight c v.holds ≡ holders c l + weight c w.holds
holders-set c [] i v w e = absurd (some-ne-none v (sym e))
holders-set c (x ∷ xs) zero v w e = let is : weight c x.holds ≡ weight c v.holds = ap (λ (m : Known). weight c m.holds) (some-injective x v e) in omega arith
holders-set c (x ∷ xs) (suc i) v w e = let r = holders-set c xs i v w e in omega arith

pub holders-snoc : (c : Class) (l : List Known) (v : Known) → holders c (l ++ v ∷ []) ≡ holders c l + weight c v.holds
holders-snoc c [] v = omega arith
holders-snoc c (x ∷ xs) v = let r = holders-snoc c xs v in omega arith

-- a seat counts
pub one_holds : (c : Class) (l : List Known) (i : ℕ) (v : Known) → get_elem? l i ≡ some v → weight c v.holds ≤ holders c l
one_holds c [] i v e = absurd (some-ne-none v (sym e))
one_holds c (x ∷ xs) zero v e = let is : weight c x.holds ≡ weight c v.holds = ap (λ (m : Known). weight c m.holds) (some-injective x v e) in omega arith
one_holds c (x ∷ xs) (suc i) v e = let r = one_holds c xs i v e in omega arith

-- and each of two counts
pub two_hold : (c : Class) (l : List Known) (i j : ℕ) (v w : Known) → i ≢ j → get_elem? l i ≡ some v → get_elem? l j ≡ some w → weight c v.holds + weight c w.holds ≤ holders c l
two_hold c [] i j v w n e f = absurd (some-ne-none v (sym e))
two_hold c (x ∷ xs) zero zero v w n e f = absurd (n refl)
two_hold c (x ∷ xs) zero (suc j) v w n e f =
    let is : weight c x.holds ≡ weight c v.holds = ap (λ (m : Known). weight c m.holds) (some-injective x v e) in let r = one_holds c xs j w f in omega arith
two_hold c (x ∷ xs) (suc i) zero v w n e f =
    let is : weight c x.holds ≡ weight c w.holds = ap (λ (m : Known). weight c m.holds) (some-injective x w f) in let r = one_holds c xs i v e in omega arith
two_hold c (x ∷ xs) (suc i) (suc j) v w n e f = let r = two_hold c xs i j v w (λ same. n (ap suc same)) e f in omega arith
