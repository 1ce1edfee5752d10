-- Rising lists of numbers: such a list is the only one that has its members.
use Rattle.std.proofs.Common.{◌≡◌, ℕ, ◌<◌, ◌≤◌, ◌==◌, Bool, nat_lt, List, [], ◌∷◌, IsTrue, refl, sym, arith, inl, inr}
use Rattle.std.proofs.lemmas.Bool.{and_parts, or_cases, or_left, or_right, eqb-true, eq-eqb, ltb-true, false≢true}
use Rattle.std.specs.List.{list_all, list_any}
use Rattle.io_model.specs.Lists.{each_pair}

-- a number is in a list
abbrev pub has : ℕ → List ℕ → Bool
has m xs = list_any (λ n. n == m) xs

abbrev pub rises : List ℕ → Bool
rises xs = each_pair nat_lt xs

-- a member is greater than what all members are greater than
pub above : (x : ℕ) (xs : List ℕ) (m : ℕ) → IsTrue (list_all (nat_lt x) xs) → IsTrue (has m xs) → x < m
above x [] m all in_list = absurd (false≢true in_list)
above x (y ∷ ys) m all in_list =
    let p = and_parts (nat_lt x y) (list_all (nat_lt x) ys) all in
    elim (or_cases (y == m) (has m ys) in_list) [
      | inl e ↦ (let lt = ltb-true x y p.0 in let same = eqb-true y m e in omega arith)
      | inr later ↦ above x ys m p.1 later
    ]

-- the first of a rising list is its least
pub least : (x : ℕ) (xs : List ℕ) (m : ℕ) → IsTrue (rises (x ∷ xs)) → IsTrue (has m (x ∷ xs)) → x ≤ m
least x xs m up in_list =
    elim (or_cases (x == m) (has m xs) in_list) [
      | inl e ↦ (let same = eqb-true x m e in omega arith)
      | inr later ↦ (let lt = above x xs m (and_parts (list_all (nat_lt x) xs) (rises xs) up).0 later in omega arith)
    ]

-- a member of a list is in the rest of another that has it and begins with the same number below it
pub rest_has : (x y : ℕ) (ys : List ℕ) (m : ℕ) → x < m → x ≡ y → IsTrue (has m (y ∷ ys)) → IsTrue (has m ys)
rest_has x y ys m low same in_list =
    elim (or_cases (y == m) (has m ys) in_list) [
      | inl e ↦ (let is = eqb-true y m e in absurd (omega arith))
      | inr later ↦ later
    ]

pub has-head : (x : ℕ) (xs : List ℕ) → IsTrue (has x (x ∷ xs))
has-head x xs = or_left (x == x) (has x xs) (eq-eqb x x refl)

pub has-tail : (x : ℕ) (xs : List ℕ) (m : ℕ) → IsTrue (has m xs) → IsTrue (has m (x ∷ xs))
has-tail x xs m h = or_right (x == m) (has m xs) h

-- two rising lists with the same members are one list
pub one_rising : (xs ys : List ℕ) → IsTrue (rises xs) → IsTrue (rises ys)
    → ((m : ℕ) → IsTrue (has m xs) → IsTrue (has m ys)) → ((m : ℕ) → IsTrue (has m ys) → IsTrue (has m xs)) → xs ≡ ys
one_rising [] [] up other there back = refl
one_rising [] (y ∷ ys) up other there back = absurd (false≢true (back y (has-head y ys)))
one_rising (x ∷ xs) [] up other there back = absurd (false≢true (there x (has-head x xs)))
one_rising (x ∷ xs) (y ∷ ys) up other there back =
    let p = and_parts (list_all (nat_lt x) xs) (rises xs) up in
    let q = and_parts (list_all (nat_lt y) ys) (rises ys) other in
    let low = least x xs y up (back y (has-head y ys)) in
    let high = least y ys x other (there x (has-head x xs)) in
    let same : x ≡ y = omega arith in
    let tails = one_rising xs ys p.1 q.1
    (λ m h. rest_has x y ys m (above x xs m p.0 h) same (there m (has-tail x xs m h)))
    (λ m h. rest_has y x xs m (above y ys m q.0 h) (sym same) (back m (has-tail y ys m h))) in
    cc
