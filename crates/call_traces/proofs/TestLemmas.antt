-- Tests of the items of lists, and what journals come to by how many stamps they have.
use Rattle.std.proofs.Common.{◌≡◌, ℕ, suc, ◌+◌, ◌<◌, ◌≤◌, ◌==◌, Bool, true, false, not, List, [], ◌∷◌, length, Some, refl, sym, ap, ◌∙◌, arith}
use Rattle.std.specs.Prelude.{slice_get}
use Rattle.std.specs.List.{list_all, list_any}
use Rattle.std.proofs.lemmas.Bool.{and_from, and_parts, eq-eqb, eqb-true}
use Rattle.iob_base.specs.declared.stamp.Stamp.{Stamp}
use Rattle.io_model.specs.Lists.{both_from, each_from, each_pair, same}
use Rattle.turn_cell.specs.Stakes.{total}
use Rattle.range_core.specs.EntryCounts.{one_where}
use Rattle.call_traces.specs.Orders.{is_stamp_of, times_stamped}

module _ {A : Type 0} where
  -- a test that holds of each item at its place holds of all
  pub each-from : (test : ℕ → A → Bool) (n : ℕ) (xs : List A) → ((i : ℕ) (x : A) → slice_get xs i ≡ Some x → test (n + i) x ≡ true) → each_from test n xs ≡ true
  each-from test n [] holds = refl
  each-from test n (x ∷ xs) holds =
      let first : test n x ≡ true = ap (λ k. test k x) (let e : n ≡ n + 0 = omega arith in e) ∙ holds 0 x refl in
      and_from (test n x) (each_from test (n + 1) xs) first (each-from test (n + 1) xs (λ i y at. ap (λ k. test k y) (let e : n + 1 + i ≡ n + suc i = omega arith in e) ∙ holds (suc i) y at))

  -- a test of items of which none is counted that fails it
  pub all-where : (test : A → Bool) (xs : List A) → total (λ x. one_where (not (test x))) xs ≡ 0 → list_all test xs ≡ true
  all-where test [] none = refl
  all-where test (x ∷ xs) none = at (test x) refl (λ rest. all-where test xs rest)
    where
      at : (t : Bool) → test x ≡ t → (total (λ y. one_where (not (test y))) xs ≡ 0 → list_all test xs ≡ true) → list_all test (x ∷ xs) ≡ true
      at true e more = and_from (test x) (list_all test xs) e (more (omega (arith, none)))
      at false e more = let one : one_where (not (test x)) ≡ 1 = ap (λ t. one_where (not t)) e in absurd (omega (arith, none, one))

  -- what two tests of each item beside each later one show together
  pub list-both : (p q r : A → Bool) → ((y : A) → p y ≡ true → q y ≡ true → r y ≡ true) → (xs : List A) → list_all p xs ≡ true → list_all q xs ≡ true → list_all r xs ≡ true
  list-both p q r show [] first second = refl
  list-both p q r show (y ∷ ys) first second =
      let f = and_parts (p y) (list_all p ys) first in
      let s = and_parts (q y) (list_all q ys) second in
      and_from (r y) (list_all r ys) (show y f.0 s.0) (list-both p q r show ys f.1 s.1)

  pub pair-both : (p q r : A → A → Bool) → ((x y : A) → p x y ≡ true → q x y ≡ true → r x y ≡ true) → (xs : List A) → each_pair p xs ≡ true → each_pair q xs ≡ true → each_pair r xs ≡ true
  pair-both p q r show [] first second = refl
  pair-both p q r show (x ∷ xs) first second =
      let f = and_parts (list_all (p x) xs) (each_pair p xs) first in
      let s = and_parts (list_all (q x) xs) (each_pair q xs) second in
      and_from (list_all (r x) xs) (each_pair r xs) (list-both (p x) (q x) (r x) (show x) xs f.0 s.0) (pair-both p q r show xs f.1 s.1)

  -- an item that is counted stands in the list
  pub counted-there : (test : A → Bool) (xs : List A) → 0 < total (λ x. one_where (test x)) xs → (i : ℕ) × (x : A) × (slice_get xs i ≡ Some x) × (test x ≡ true)
  counted-there test [] some = absurd (omega (arith, some))
  counted-there test (x ∷ xs) some = at (test x) refl (λ more. counted-there test xs more)
    where
      at : (t : Bool) → test x ≡ t → (0 < total (λ y. one_where (test y)) xs → (i : ℕ) × (y : A) × (slice_get xs i ≡ Some y) × (test y ≡ true))
          → (i : ℕ) × (y : A) × (slice_get (x ∷ xs) i ≡ Some y) × (test y ≡ true)
      at true e more = (0, x, refl, e)
      at false e more =
          let none : one_where (test x) ≡ 0 = ap one_where e in
          let rest = more (omega (arith, some, none)) in
          (suc rest.0, rest.1, rest.2, rest.3)

  -- one of which each weighs no more than another weighing, weighs no more in all
  pub total-less : (f g : A → ℕ) → ((x : A) → f x ≤ g x) → (xs : List A) → total f xs ≤ total g xs
  total-less f g less [] = omega arith
  total-less f g less (x ∷ xs) = omega (arith, less x, total-less f g less xs)

-- a test that holds of each two items at one place holds of both lists
pub both-from : {A B : Type 0} (test : ℕ → A → B → Bool) (n : ℕ) (xs : List A) (ys : List B) → length xs ≡ length ys → ((i : ℕ) (x : A) (y : B) → slice_get xs i ≡ Some x → slice_get ys i ≡ Some y → test (n + i) x y ≡ true) → both_from test n xs ys ≡ true
both-from test n [] [] long holds = refl
both-from test n [] (y ∷ ys) long holds = absurd (omega (arith, long))
both-from test n (x ∷ xs) [] long holds = absurd (omega (arith, long))
both-from test n (x ∷ xs) (y ∷ ys) long holds =
    let first : test n x y ≡ true = ap (λ k. test k x y) (let e : n ≡ n + 0 = omega arith in e) ∙ holds 0 x y refl refl in
    and_from (test n x y) (both_from test (n + 1) xs ys) first (both-from test (n + 1) xs ys (omega (arith, long)) (λ i v w at there. ap (λ k. test k v w) (let e : n + 1 + i ≡ n + suc i = omega arith in e) ∙ holds (suc i) v w at there))

-- whether a journal has a stamp of a call, by how many it has
pub any-times : (n : ℕ) (t : Bool) (journal : List Stamp) → times_stamped n journal ≡ one_where t → same (list_any (λ st. st.call == n) journal) t ≡ true
any-times n true [] times = absurd (omega (arith, times))
any-times n false [] times = refl
any-times n t (st ∷ sts) times = at (st.call == n) refl (λ fewer. any-times n t sts fewer)
  where
    at : (found : Bool) → (st.call == n) ≡ found → (times_stamped n sts ≡ one_where t → same (list_any (λ x. x.call == n) sts) t ≡ true) → same (list_any (λ x. x.call == n) (st ∷ sts)) t ≡ true
    at true e more =
        let one : is_stamp_of n st ≡ 1 = ap one_where e in
        let is : t ≡ true = by t refl one in
        let found : list_any (λ (x : Stamp). x.call == n) (st ∷ sts) ≡ true = cc in
        ap (λ f. same (list_any (λ (x : Stamp). x.call == n) (st ∷ sts)) f) is ∙ ap (λ l. same l true) found
      where
        by : (u : Bool) → t ≡ u → is_stamp_of n st ≡ 1 → t ≡ true
        by true f one = f
        by false f one = let none : times_stamped n (st ∷ sts) ≡ 0 = times ∙ ap one_where f in absurd (omega (arith, one, none))
    at false e more =
        let none : is_stamp_of n st ≡ 0 = ap one_where e in
        let rest : same (list_any (λ (x : Stamp). x.call == n) sts) t ≡ true = more (omega (arith, none, times)) in
        let skip : list_any (λ (x : Stamp). x.call == n) (st ∷ sts) ≡ list_any (λ x. x.call == n) sts = cc in
        ap (λ f. same f t) skip ∙ rest

-- a journal with at most one stamp of each call has no call twice
others-of : (n : ℕ) (sts : List Stamp) → times_stamped n sts ≡ 0 → list_all (λ later. not (n == later.call)) sts ≡ true
others-of n [] none = refl
others-of n (st ∷ sts) none =
    and_from (not (n == st.call)) (list_all (λ later. not (n == later.call)) sts) (at (n == st.call) refl) (others-of n sts (omega (arith, none)))
  where
    at : (t : Bool) → (n == st.call) ≡ t → not (n == st.call) ≡ true
    at true e =
        let one : is_stamp_of n st ≡ 1 = ap one_where (eq-eqb st.call n (sym (eqb-true n st.call e))) in
        absurd (omega (arith, none, one))
    at false e = ap not e

pub no-call-twice : (journal : List Stamp) → ((n : ℕ) → times_stamped n journal ≤ 1) → each_pair (λ st later. not (st.call == later.call)) journal ≡ true
no-call-twice [] few = refl
no-call-twice (st ∷ sts) few =
    let own : is_stamp_of st.call st ≡ 1 = ap one_where (eq-eqb st.call st.call refl) in
    let all = few st.call in
    and_from (list_all (λ later. not (st.call == later.call)) sts) (each_pair (λ x later. not (x.call == later.call)) sts) (others-of st.call sts (omega (arith, own, all)))
    (no-call-twice sts (λ n. let a = few n in omega (arith, a)))
