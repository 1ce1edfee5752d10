use Rattle.std.proofs.Common.{◌≡◌, ℕ, zero, suc, ◌+◌, ◌≤◌, ◌⊎◌, Bool, true, false, not, ◌&&◌, ◌||◌, ◌==◌, nat_lt, nat_le, if◌then◌else◌, List, [], ◌∷◌, arith, inl, refl, sym, ap, subst}
use Rattle.std.proofs.lemmas.Bool.Decides.{nat_tests}
use Rattle.std.proofs.lemmas.Bool.{leb-true, eqb-true, and_parts}
use Rattle.std.specs.List.{list_any}
use Rattle.iob_base.specs.Counts.{count_after}
use Rattle.fault_device.specs.Opening.{distinct}
use Rattle.fault_device.specs.Ran.{armed_among}
use Rattle.fault_device.specs.Telling.{Telling, LAST_NUMBER, is_next_armed, judged_once}

-- a number that a judgement after so many can have
abbrev pub is_later : ℕ → ℕ → Bool
is_later j x = nat_lt j x && nat_le x LAST_NUMBER

-- how many different numbers of a list a judgement after so many can have
abbrev pub distinct_later : ℕ → List ℕ → ℕ
distinct_later j [] = 0
distinct_later j (x ∷ xs) = (if is_later j x && not (list_any (λ y. y == x) xs) then 1 else 0) + distinct_later j xs

head_within : (l b : Bool) → (if l && not b then 1 else 0) ≤ (if b then 0 else 1)
head_within true true = omega arith
head_within true false = omega arith
head_within false true = omega arith
head_within false false = omega arith

pub distinct_later-within : (j : ℕ) (xs : List ℕ) → distinct_later j xs ≤ distinct xs
distinct_later-within j [] = omega arith
distinct_later-within j (x ∷ xs) =
    omega (arith, head_within (is_later j x) (list_any (λ y. y == x) xs), distinct_later-within j xs)

head_falls : (j k x : ℕ) (b : Bool) → (j ≤ k) ⊎ (LAST_NUMBER ≤ k) → (if is_later k x && b then 1 else 0) ≤ (if is_later j x && b then 1 else 0)
head_falls j k x b h = grind (arith, nat_tests)

pub distinct_later-falls : (j k : ℕ) (xs : List ℕ) → (j ≤ k) ⊎ (LAST_NUMBER ≤ k) → distinct_later k xs ≤ distinct_later j xs
distinct_later-falls j k [] h = omega arith
distinct_later-falls j k (x ∷ xs) h =
    omega (arith, head_falls j k x (not (list_any (λ y. y == x) xs)) h, distinct_later-falls j k xs h)

test_at : (j n x : ℕ) (b : Bool) → n ≡ j + 1 → n ≤ LAST_NUMBER → (x == n) ≡ true → b ≡ false → (if is_later n x && not b then 1 else 0) + 1 ≤ (if is_later j x && not b then 1 else 0)
test_at j n x b e h t f = grind (arith, nat_tests)

or_left : (a b : Bool) → (a || b) ≡ true → b ≡ false → a ≡ true
or_left true b h e = refl
or_left false b h e = cc

-- the next number is armed: one fewer is left after it
pub distinct_later-next : (j n : ℕ) (xs : List ℕ) → n ≡ j + 1 → n ≤ LAST_NUMBER → list_any (λ y. y == n) xs ≡ true → distinct_later n xs + 1 ≤ distinct_later j xs
distinct_later-next j n [] e h f = absurd (cc)
distinct_later-next j n (x ∷ xs) e h f =
    next_at j n x xs e h f (list_any (λ y. y == n) xs) refl (λ g. distinct_later-next j n xs e h g)
  where
    next_at : (j n x : ℕ) (xs : List ℕ) → n ≡ j + 1 → n ≤ LAST_NUMBER → ((x == n) || list_any (λ y. y == n) xs) ≡ true → (b : Bool) → list_any (λ y. y == n) xs ≡ b → (b ≡ true → distinct_later n xs + 1 ≤ distinct_later j xs) → distinct_later n (x ∷ xs) + 1 ≤ distinct_later j (x ∷ xs)
    next_at j n x xs e h f true is more =
        omega (arith, head_falls j n x (not (list_any (λ y. y == x) xs)) (inl (omega arith)), more refl)
    next_at j n x xs e h f false is more =
        let here : (x == n) ≡ true = or_left (x == n) _ f is in
        let P : ℕ → Type 0 = λ m. list_any (λ y. y == m) xs ≡ false in
        let none : list_any (λ y. y == x) xs ≡ false = subst P (sym (eqb-true x n here)) is in
        omega (arith, test_at j n x _ e h here none, distinct_later-falls j n xs (inl (omega arith)))

one_if : (b : Bool) → b ≡ true → ◌≡◌ {A = ℕ} (if b then 1 else 0) 1
one_if true e = refl
one_if false e = cc

none_if : (b : Bool) → b ≡ false → ◌≡◌ {A = ℕ} (if b then 1 else 0) 0
none_if true e = cc
none_if false e = refl

falls_after : (j : ℕ) → (j ≤ count_after j) ⊎ (LAST_NUMBER ≤ count_after j)
falls_after j = grind arith

-- at most as many judgements fail as different numbers are armed
pub armed_among-later : (n : ℕ) (t : Telling) → armed_among n t ≤ distinct_later t.judged t.armed
armed_among-later zero t = omega arith
armed_among-later (suc n) t = step n t (is_next_armed t) refl (armed_among-later n (judged_once t))
  where
    step : (n : ℕ) (t : Telling) (b : Bool) → is_next_armed t ≡ b → armed_among n (judged_once t) ≤ distinct_later (count_after t.judged) t.armed → (if is_next_armed t then 1 else 0) + armed_among n (judged_once t) ≤ distinct_later t.judged t.armed
    step n t true e h =
        let numbered : t.judged + 1 ≤ LAST_NUMBER = leb-true _ _ ((and_parts _ _ e).0) in
        let next : count_after t.judged ≡ t.judged + 1 = omega arith in
        let left : distinct_later (count_after t.judged) t.armed ≡ distinct_later (t.judged + 1) t.armed =
        ap (λ j. distinct_later j t.armed) next in
        omega (arith, one_if _ e, distinct_later-next t.judged (t.judged + 1) t.armed refl numbered ((and_parts _ _ e).1))
    step n t false e h = omega (arith, none_if _ e, distinct_later-falls t.judged (count_after t.judged) t.armed (falls_after t.judged))
