-- Numbers that are left out of a list weigh as much as is missing.
use Rattle.std.proofs.Common.{◌≡◌, ℕ, ◌+◌, ◌<◌, ◌≤◌, Bool, true, false, cond, ◌==◌, List, [], ◌∷◌, length, refl, ap, arith}
use Rattle.std.proofs.lemmas.Bool.Decides.{nat_tests}
use Rattle.turn_cell.specs.Stakes.{total}
use Rattle.turn_cell.proofs.Sums.{total-count}
use Rattle.space_pool.specs.Claims.{times, without_one, without, AreAmong}

by-test : (f : ℕ → ℕ) (x y : ℕ) (ys : List ℕ) (b : Bool) → (y == x) ≡ b → 0 < cond b 1 0 + times x ys → (0 < times x ys → total f (without_one x ys) + f x ≡ total f ys)
    → total f (cond b ys (y ∷ without_one x ys)) + f x ≡ f y + total f ys
by-test f x y ys true is some rest = let e : y ≡ x = grind (arith, nat_tests) in let g : f y ≡ f x = ap f e in omega arith
by-test f x y ys false is some rest = let e : total f (without_one x ys) + f x ≡ total f ys = rest (omega arith) in omega arith

at-itself : (x n : ℕ) → cond (x == x) 1 0 + n ≡ 1 + n
at-itself x n = grind (arith, nat_tests)

-- one number that is there, left out once
pub one-weighs : (f : ℕ → ℕ) (x : ℕ) (ys : List ℕ) → 0 < times x ys → total f (without_one x ys) + f x ≡ total f ys
one-weighs f x [] some = absurd (omega arith)
one-weighs f x (y ∷ ys) some = by-test f x y ys (y == x) refl some (one-weighs f x ys)

-- the numbers of the first list, each left out once
pub without-weighs : (f : ℕ → ℕ) (xs ys : List ℕ) → AreAmong xs ys → total f (without xs ys) + total f xs ≡ total f ys
without-weighs f [] ys among = omega arith
without-weighs f (x ∷ xs) ys among =
    let a : cond (x == x) 1 0 + times x xs ≤ times x ys = among x in
    let here : 0 < times x ys = omega (arith, at-itself x (times x xs)) in
    let rest : AreAmong xs (without_one x ys) = λ z.
    let w : total (λ y. cond (y == z) 1 0) (without_one x ys) + cond (x == z) 1 0 ≡ times z ys = one-weighs (λ y. cond (y == z) 1 0) x ys here in
    let a : cond (x == z) 1 0 + times z xs ≤ times z ys = among z in omega arith in
    let o : total f (without_one x ys) + f x ≡ total f ys = one-weighs f x ys here in
    omega (arith, without-weighs f xs (without_one x ys) rest)

-- how many are left
pub without-length : (xs ys : List ℕ) → AreAmong xs ys → length (without xs ys) + length xs ≡ length ys
without-length xs ys among =
    let w = without-weighs (λ _. 1) xs ys among in
    omega (arith, w, total-count (without xs ys), total-count xs, total-count ys)
