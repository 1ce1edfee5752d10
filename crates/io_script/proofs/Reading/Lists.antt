-- Equal lists, taken apart.
use Rattle.std.proofs.Common.{◌≡◌, ℕ, ◌+◌, ◌<◌, ◌≤◌, Bool, true, false, List, [], ◌∷◌, ◌++◌, length, drop, map, Option, Some, None, refl, sym, ap, ap₂, ◌∙◌, arith}
use Rattle.std.proofs.lemmas.Bool.{true≢false}

-- the first item, and another where there is none
abbrev pub first_or : {A : Type 0} → A → List A → A
first_or d [] = d
first_or d (x ∷ xs) = x

pub heads : {A : Type 0} → (x y : A) (xs ys : List A) → x ∷ xs ≡ y ∷ ys → x ≡ y
heads x y xs ys e = ap (first_or x) e

pub tails : {A : Type 0} → (x y : A) (xs ys : List A) → x ∷ xs ≡ y ∷ ys → xs ≡ ys
tails x y xs ys e = ap (drop 1) e

abbrev is_nil : {A : Type 0} → List A → Bool
is_nil [] = true
is_nil (x ∷ xs) = false

pub nil_apart : {A : Type 0} → (x : A) (xs : List A) → [] ≡ x ∷ xs → ⊥
nil_apart x xs e = true≢false (ap is_nil e)

-- each item has the property
abbrev pub Each : {A : Type 0} → (A → Type 0) → List A → Type 0
Each P [] = Unit {0}
Each P (x ∷ xs) = P x × Each P xs

pub each_append : {A : Type 0} (P : A → Type 0) (xs ys : List A) → Each P xs → Each P ys → Each P (xs ++ ys)
each_append P [] ys h k = k
each_append P (x ∷ xs) ys h k = (h.0, each_append P xs ys h.1 k)

-- two lists whose first items pass a test and whose others do not are cut at one place
pub cut_by : {A : Type 0} (test : A → Bool) (xs ys us vs : List A) → Each (λ x. test x ≡ true) xs → Each (λ x. test x ≡ true) ys
    → Each (λ x. test x ≡ false) us → Each (λ x. test x ≡ false) vs → xs ++ us ≡ ys ++ vs → (xs ≡ ys) × (us ≡ vs)
cut_by test [] [] us vs hx hy hu hv e = (refl, e)
cut_by test [] (y ∷ ys) [] vs hx hy hu hv e = absurd (nil_apart y (ys ++ vs) e)
cut_by test [] (y ∷ ys) (u ∷ us) vs hx hy hu hv e =
    absurd (true≢false (sym hy.0 ∙ sym (ap test (heads u y us (ys ++ vs) e)) ∙ hu.0))
cut_by test (x ∷ xs) [] us [] hx hy hu hv e = absurd (nil_apart x (xs ++ us) (sym e))
cut_by test (x ∷ xs) [] us (v ∷ vs) hx hy hu hv e =
    absurd (true≢false (sym hx.0 ∙ ap test (heads x v (xs ++ us) vs e) ∙ hv.0))
cut_by test (x ∷ xs) (y ∷ ys) us vs hx hy hu hv e =
    let same = cut_by test xs ys us vs hx.1 hy.1 hu hv (tails x y (xs ++ us) (ys ++ vs) e) in
    (ap₂ (λ z zs. z ∷ zs) (heads x y (xs ++ us) (ys ++ vs) e) same.0, same.1)

-- the items that are there, each with its number, of which the first is n
abbrev pub present : {A : Type 0} → ℕ → List (Option A) → List (ℕ × A)
present n [] = []
present n (None ∷ os) = present (n + 1) os
present n (Some x ∷ os) = (n, x) ∷ present (n + 1) os

present_later : {A : Type 0} (n m : ℕ) (x : A) (os : List (Option A)) (ps : List (ℕ × A)) → n < m → present m os ≡ (n, x) ∷ ps → ⊥
present_later n m x [] ps h e = nil_apart (n, x) ps e
present_later n m x (None ∷ os) ps h e = present_later n (m + 1) x os ps (omega arith) e
present_later n m x (Some y ∷ os) ps h e =
    let same : m ≡ n = ap (λ p. p.0) (heads (m, y) (n, x) (present (m + 1) os) ps e) in omega arith

-- as many items, of which the same are there with the same numbers, are the same
pub present_one : {A : Type 0} (n : ℕ) (os ps : List (Option A)) → length os ≡ length ps → present n os ≡ present n ps → os ≡ ps
present_one n [] [] h e = refl
present_one n [] (p ∷ ps) h e = absurd (omega (arith, h))
present_one n (o ∷ os) [] h e = absurd (omega (arith, h))
present_one n (None ∷ os) (None ∷ ps) h e = ap (λ l. None ∷ l) (present_one (n + 1) os ps (omega (arith, h)) e)
present_one n (None ∷ os) (Some y ∷ ps) h e = absurd (present_later n (n + 1) y os (present (n + 1) ps) (omega arith) e)
present_one n (Some x ∷ os) (None ∷ ps) h e = absurd (present_later n (n + 1) x ps (present (n + 1) os) (omega arith) (sym e))
present_one n (Some x ∷ os) (Some y ∷ ps) h e =
    ap₂ (λ z l. Some z ∷ l) (ap (λ p. p.1) (heads (n, x) (n, y) (present (n + 1) os) (present (n + 1) ps) e))
    (present_one (n + 1) os ps (omega (arith, h)) (tails (n, x) (n, y) (present (n + 1) os) (present (n + 1) ps) e))

-- the texts of some items, one after the other
abbrev pub lines : {A : Type 0} → (A → List ℕ → List ℕ) → List A → List ℕ → List ℕ
lines line [] rest = rest
lines line (x ∷ xs) rest = line x (lines line xs rest)

-- an item that is lawful can be read off its text, where what comes after it begins well, and it begins well itself
pub record IsRead {A : Type 0} (line : A → List ℕ → List ℕ) (Lawful : A → Type 0) (BeginsWell : List ℕ → Type 0) : Type 0 where
  pub one : (x y : A) (a b : List ℕ) → Lawful x → Lawful y → BeginsWell a → BeginsWell b → line x a ≡ line y b → (x ≡ y) × (a ≡ b)
  pub begins : (x : A) (a : List ℕ) → BeginsWell (line x a)

-- a text that is no more of the items
abbrev pub Ends : {A : Type 0} → (A → List ℕ → List ℕ) → (A → Type 0) → List ℕ → Type 0
Ends {A} line Lawful rest = (x : A) (a : List ℕ) → Lawful x → line x a ≡ rest → ⊥

lines_begin : {A : Type 0} (line : A → List ℕ → List ℕ) (Lawful : A → Type 0) (BeginsWell : List ℕ → Type 0) → IsRead line Lawful BeginsWell → (xs : List A) (a : List ℕ)
    → BeginsWell a → BeginsWell (lines line xs a)
lines_begin line Lawful BeginsWell r [] a h = h
lines_begin line Lawful BeginsWell r (x ∷ xs) a h = r.begins x (lines line xs a)

-- the items can be read off their texts
pub lines_one : {A : Type 0} (line : A → List ℕ → List ℕ) (Lawful : A → Type 0) (BeginsWell : List ℕ → Type 0) → IsRead line Lawful BeginsWell → (xs ys : List A) (a b : List ℕ)
    → Each Lawful xs → Each Lawful ys → BeginsWell a → BeginsWell b → Ends line Lawful a → Ends line Lawful b → lines line xs a ≡ lines line ys b → (xs ≡ ys) × (a ≡ b)
lines_one line Lawful BeginsWell r [] [] a b hx hy ha hb ea eb e = (refl, e)
lines_one line Lawful BeginsWell r [] (y ∷ ys) a b hx hy ha hb ea eb e = absurd (ea y (lines line ys b) hy.0 (sym e))
lines_one line Lawful BeginsWell r (x ∷ xs) [] a b hx hy ha hb ea eb e = absurd (eb x (lines line xs a) hx.0 e)
lines_one line Lawful BeginsWell r (x ∷ xs) (y ∷ ys) a b hx hy ha hb ea eb e =
    let first = r.one x y (lines line xs a) (lines line ys b) hx.0 hy.0 (lines_begin line Lawful BeginsWell r xs a ha) (lines_begin line Lawful BeginsWell r ys b hb) e in
    let others = lines_one line Lawful BeginsWell r xs ys a b hx.1 hy.1 ha hb ea eb first.1 in
    (ap₂ (λ z zs. z ∷ zs) first.0 others.0, others.1)

pub lines_append : {A : Type 0} (line : A → List ℕ → List ℕ) (xs ys : List A) (rest : List ℕ) → lines line (xs ++ ys) rest ≡ lines line xs (lines line ys rest)
lines_append line [] ys rest = refl
lines_append line (x ∷ xs) ys rest = ap (line x) (lines_append line xs ys rest)

-- each item is there again after it was put into something
map_back : {A B : Type 0} (f : A → B) (g : B → A) → ((x : A) → g (f x) ≡ x) → (xs : List A) → map g (map f xs) ≡ xs
map_back f g back [] = refl
map_back f g back (x ∷ xs) = ap₂ (λ z zs. z ∷ zs) (back x) (map_back f g back xs)

pub map_one : {A B : Type 0} (f : A → B) (g : B → A) → ((x : A) → g (f x) ≡ x) → (xs ys : List A) → map f xs ≡ map f ys → xs ≡ ys
map_one f g back xs ys e = sym (map_back f g back xs) ∙ ap (map g) e ∙ map_back f g back ys

pub each_map : {A B : Type 0} (P : B → Type 0) (f : A → B) → ((x : A) → P (f x)) → (xs : List A) → Each P (map f xs)
each_map P f h [] = tt
each_map P f h (x ∷ xs) = (h x, each_map P f h xs)

pub length_map : {A B : Type 0} (f : A → B) (xs : List A) → length (map f xs) ≡ length xs
length_map f [] = refl
length_map f (x ∷ xs) = let more = length_map f xs in omega (arith, more)

-- an item has the property, where there is one
abbrev pub IfThere : {A : Type 0} → (A → Type 0) → Option A → Type 0
IfThere P None = Unit {0}
IfThere P (Some x) = P x

pub each_present : {A B : Type 0} (P : A → Type 0) (Lawful : B → Type 0) (f : ℕ × A → B) (most : ℕ) → ((n : ℕ) (x : A) → n < most → P x → Lawful (f (n, x)))
    → (n : ℕ) (os : List (Option A)) → n + length os ≤ most → Each (IfThere P) os → Each Lawful (map f (present n os))
each_present P Lawful f most lawful n [] h each = tt
each_present P Lawful f most lawful n (None ∷ os) h each = each_present P Lawful f most lawful (n + 1) os (omega (arith, h)) each.1
each_present P Lawful f most lawful n (Some x ∷ os) h each =
    (lawful n x (omega (arith, h)) each.0, each_present P Lawful f most lawful (n + 1) os (omega (arith, h)) each.1)
