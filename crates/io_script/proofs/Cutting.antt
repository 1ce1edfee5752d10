-- Cutting a list at the first item that passes.
use Rattle.std.proofs.Common.{◌≡◌, ℕ, ◌+◌, Bool, true, false, cond, not, List, [], ◌∷◌, length, nat_eq, Some, None, refl, ap, sym, arith}
use Rattle.std.specs.List.{slice_split, onto_first, position_or_len}
use Rattle.std.proofs.lemmas.Bool.{false_from_ne_true}
use Rattle.std.proofs.lemmas.List.Sums.{position_or_len_is}
use Rattle.memchr.specs.Find.{IsFirstByte, is_byte}

-- one item more: it is no place to cut, since there is none
whole_cons : {X : Type 0} (b : Bool) (x : X) (xs : List X) (parts : List (List X)) (n : ℕ) → cond (not b) (1 + n) 0 ≡ length (x ∷ xs)
    → (n ≡ length xs → parts ≡ xs ∷ []) → cond b ([] ∷ parts) (onto_first x parts) ≡ (x ∷ xs) ∷ []
whole_cons true x xs parts n e rest = absurd (omega arith)
whole_cons false x xs parts n e rest = ap (onto_first x) (rest (omega arith))

-- a list without such an item is one piece
pub slice_split-whole : {X : Type 0} (p : X → Bool) (xs : List X) → position_or_len p xs ≡ length xs → slice_split p xs ≡ xs ∷ []
slice_split-whole p [] e = refl
slice_split-whole p (x ∷ xs) e = whole_cons (p x) x xs (slice_split p xs) (position_or_len p xs) e (slice_split-whole p xs)

-- where the first such byte was found, and where none was
pub first_found : (separator : ℕ) (xs : List ℕ) (k : ℕ) → IsFirstByte (is_byte separator) xs (Some k) → k ≡ position_or_len (λ b. nat_eq b separator) xs
first_found separator xs k h =
    sym (position_or_len_is (λ b. nat_eq b separator) xs k 0 (omega (arith, h.0.high))
    (λ i lt. false_from_ne_true _ (h.0.before i (omega arith) lt)) (λ _. h.1))

pub none_found : (separator : ℕ) (xs : List ℕ) → IsFirstByte (is_byte separator) xs None → length xs ≡ position_or_len (λ b. nat_eq b separator) xs
none_found separator xs h =
    sym (position_or_len_is (λ b. nat_eq b separator) xs (length xs) 0 (omega arith)
    (λ i lt. false_from_ne_true _ (h i (omega arith) lt)) (λ lt. absurd (omega arith)))
