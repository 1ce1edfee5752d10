-- Counts of two callers are merged file by file.
use Rattle.std.proofs.Common.{◌≡◌, ℕ, zero, suc, ◌+◌, ◌<◌, ◌≤◌, List, [], ◌∷◌, length, get_or, set, max, refl, ap, ◌∙◌, arith}
use Rattle.writeback_ioend.specs.ErrorCounts.{greater_counts}

-- of the first files the greater counts, of the others those of the first caller
abbrev pub greater_of_first : ℕ → List ℕ → List ℕ → List ℕ
greater_of_first zero counts others = counts
greater_of_first (suc n) (a ∷ counts) (b ∷ others) = max a b ∷ greater_of_first n counts others
greater_of_first (suc n) counts others = counts

pub greater-more : (n : ℕ) (counts others : List ℕ) (mine told : ℕ) → n < length others → mine ≡ get_or (greater_of_first n counts others) n mine → told ≡ get_or others n told
    → set (greater_of_first n counts others) n (max mine told) ≡ greater_of_first (suc n) counts others
greater-more n counts [] mine told below is was = absurd (omega arith)
greater-more zero [] (b ∷ others) mine told below is was = refl
greater-more (suc n) [] (b ∷ others) mine told below is was = refl
greater-more zero (a ∷ counts) (b ∷ others) mine told below is was = ap (λ m. m ∷ counts) (ap (λ x. max x told) is ∙ ap (max a) was)
greater-more (suc n) (a ∷ counts) (b ∷ others) mine told below is was = ap (λ l. max a b ∷ l) (greater-more n counts others mine told (omega arith) is was)

pub greater-next : (n : ℕ) (counts others : List ℕ) (mine told : ℕ) → n < length others → mine ≡ get_or (greater_of_first n counts others) n mine → told ≡ get_or others n told
    → set (greater_of_first n counts others) n (max mine told) ≡ greater_of_first (n + 1) counts others
greater-next n counts others mine told below is was = greater-more n counts others mine told below is was ∙ ap (λ k. greater_of_first k counts others) (let e : suc n ≡ n + 1 = omega arith in e)

pub greater-all : (n : ℕ) (counts others : List ℕ) → length counts ≤ n → length counts ≡ length others → greater_of_first n counts others ≡ greater_counts counts others
greater-all zero [] others few same = refl
greater-all (suc n) [] others few same = refl
greater-all zero (a ∷ counts) others few same = absurd (omega arith)
greater-all (suc n) (a ∷ counts) [] few same = absurd (omega arith)
greater-all (suc n) (a ∷ counts) (b ∷ others) few same = ap (λ l. max a b ∷ l) (greater-all n counts others (omega arith) (omega arith))
