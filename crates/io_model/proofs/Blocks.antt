-- What a test of each item, of each pair or of each block says of one.
use Rattle.std.proofs.Common.{◌≡◌, ℕ, zero, suc, ◌+◌, ◌<◌, Bool, List, [], ◌∷◌, Option, Some, None, IsTrue, refl, subst, arith}
use Rattle.std.proofs.lemmas.Bool.{and_parts, and_from, false≢true}
use Rattle.std.specs.List.{list_all, slice_get}
use Rattle.io_model.specs.Journals.{each_block}
use Rattle.io_model.specs.Lists.{each_from, each_pair, is_some_and, numbered}
use Rattle.io_model.specs.declared.file.BlockEnd.{BlockEnd}
use Rattle.io_model.specs.declared.file.FileEnd.{FileEnd}

-- an item that is there meets the test
pub some_meets : {A : Type 0} (test : A → Bool) (o : Option A) → IsTrue (is_some_and o test) → (x : A) × (o ≡ Some x) × IsTrue (test x)
some_meets test None h = absurd (false≢true h)
some_meets test (Some x) h = (x, refl, h)

-- of an item that is known to be there
pub meets_at : {A : Type 0} (test : A → Bool) (o : Option A) (x : A) → o ≡ Some x → IsTrue (is_some_and o test) → IsTrue (test x)
meets_at test o x e h = subst (λ p. IsTrue (is_some_and p test)) e h

pub list_all-at : {A : Type 0} (test : A → Bool) (xs : List A) (i : ℕ) (x : A) → IsTrue (list_all test xs) → slice_get xs i ≡ Some x → IsTrue (test x)
list_all-at test [] i x all e = absurd (cc)
list_all-at test (y ∷ ys) zero x all e =
    let p = and_parts (test y) (list_all test ys) all in
    let same : y ≡ x = cc in
    subst (λ z. IsTrue (test z)) same p.0
list_all-at test (y ∷ ys) (suc i) x all e = list_all-at test ys i x (and_parts (test y) (list_all test ys) all).1 e

pub each_pair-at : {A : Type 0} (test : A → A → Bool) (xs : List A) (i j : ℕ) (x y : A) → IsTrue (each_pair test xs) → i < j
    → slice_get xs i ≡ Some x → slice_get xs j ≡ Some y → IsTrue (test x y)
each_pair-at test [] i j x y all below e f = absurd (cc)
each_pair-at test (z ∷ zs) i zero x y all below e f = absurd (omega arith)
each_pair-at test (z ∷ zs) zero (suc j) x y all below e f =
    let p = and_parts (list_all (test z) zs) (each_pair test zs) all in
    let same : z ≡ x = cc in
    subst (λ w. IsTrue (test w y)) same (list_all-at (test z) zs j y p.0 f)
each_pair-at test (z ∷ zs) (suc i) (suc j) x y all below e f =
    each_pair-at test zs i j x y (and_parts (list_all (test z) zs) (each_pair test zs) all).1 (omega arith) e f

-- the same of the numbers of items
pub each_pair-numbered : {A : Type 0} (test : A → A → Bool) (xs : List A) (m n : ℕ) (x y : A) → IsTrue (each_pair test xs) → m < n
    → numbered xs m ≡ Some x → numbered xs n ≡ Some y → IsTrue (test x y)
each_pair-numbered test xs zero n x y all below e f = absurd (cc)
each_pair-numbered test xs (suc m) zero x y all below e f = absurd (omega arith)
each_pair-numbered test xs (suc m) (suc n) x y all below e f = each_pair-at test xs m n x y all (omega arith) e f

-- what five tests of each item together show of it
pub each_from-five : {A : Type 0} (p q r s t u : ℕ → A → Bool)
    → ((n : ℕ) (x : A) → IsTrue (p n x) → IsTrue (q n x) → IsTrue (r n x) → IsTrue (s n x) → IsTrue (t n x) → IsTrue (u n x)) → (n : ℕ) (xs : List A)
    → IsTrue (each_from p n xs) → IsTrue (each_from q n xs) → IsTrue (each_from r n xs) → IsTrue (each_from s n xs) → IsTrue (each_from t n xs) → IsTrue (each_from u n xs)
each_from-five p q r s t u show n [] a b c d e = refl
each_from-five p q r s t u show n (x ∷ xs) a b c d e =
    let a' = and_parts (p n x) (each_from p (n + 1) xs) a in
    let b' = and_parts (q n x) (each_from q (n + 1) xs) b in
    let c' = and_parts (r n x) (each_from r (n + 1) xs) c in
    let d' = and_parts (s n x) (each_from s (n + 1) xs) d in
    let e' = and_parts (t n x) (each_from t (n + 1) xs) e in
    and_from (u n x) (each_from u (n + 1) xs) (show n x a'.0 b'.0 c'.0 d'.0 e'.0) (each_from-five p q r s t u show (n + 1) xs a'.1 b'.1 c'.1 d'.1 e'.1)

-- the same of each block of each file
pub each_block-five : (p q r s t u : ℕ → ℕ → BlockEnd → Bool)
    → ((f b : ℕ) (block : BlockEnd) → IsTrue (p f b block) → IsTrue (q f b block) → IsTrue (r f b block) → IsTrue (s f b block) → IsTrue (t f b block) → IsTrue (u f b block))
    → (files : List FileEnd) → IsTrue (each_block p files) → IsTrue (each_block q files) → IsTrue (each_block r files) → IsTrue (each_block s files) → IsTrue (each_block t files)
    → IsTrue (each_block u files)
each_block-five p q r s t u show files =
    each_from-five (λ f file. each_from (p f) 0 file.blocks) (λ f file. each_from (q f) 0 file.blocks) (λ f file. each_from (r f) 0 file.blocks)
    (λ f file. each_from (s f) 0 file.blocks) (λ f file. each_from (t f) 0 file.blocks) (λ f file. each_from (u f) 0 file.blocks)
    (λ f file. each_from-five (p f) (q f) (r f) (s f) (t f) (u f) (show f) 0 file.blocks) 0 files
