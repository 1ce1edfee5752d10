use Rattle.std.specs.Prelude.{ℕ, zero, suc, Bool, true, false, not, ◌&&◌, ◌+◌, ◌-◌, List, [], ◌∷◌, Option, Some, None, take, drop, slice_get, if◌then◌else◌}
use Rattle.std.specs.List.{list_all}

-- two tests give the same answer
abbrev pub same : Bool → Bool → Bool
same a b = if a then b else not b

-- a test of each item beside its number, the first of which is n
abbrev pub each_from : {A : Type 0} → (ℕ → A → Bool) → ℕ → List A → Bool
each_from test n [] = true
each_from test n (x ∷ xs) = test n x && each_from test (n + 1) xs

-- a test of each item beside that of another list at its place and their number; the lists are of one length
abbrev pub both_from : {A B : Type 0} → (ℕ → A → B → Bool) → ℕ → List A → List B → Bool
both_from test n [] [] = true
both_from test n [] (y ∷ ys) = false
both_from test n (x ∷ xs) [] = false
both_from test n (x ∷ xs) (y ∷ ys) = test n x y && both_from test (n + 1) xs ys

-- a test of each item beside each later one
abbrev pub each_pair : {A : Type 0} → (A → A → Bool) → List A → Bool
each_pair test [] = true
each_pair test (x ∷ xs) = list_all (test x) xs && each_pair test xs

-- the item of a number that counts from 1
abbrev pub numbered : {A : Type 0} → List A → ℕ → Option A
numbered xs zero = None
numbered xs (suc n) = slice_get xs n

-- a test of an item that must be there
abbrev pub is_some_and : {A : Type 0} → Option A → (A → Bool) → Bool
is_some_and None test = false
is_some_and (Some x) test = test x

-- the bytes from one place up to another
abbrev pub bytes_between : ℕ → ℕ → List ℕ → List ℕ
bytes_between low high bytes = take (high - low) (drop low bytes)
