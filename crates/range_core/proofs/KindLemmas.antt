use Rattle.std.proofs.Common.{◌≡◌, ℕ, zero, suc, ◌+◌, ◌<◌, ◌≤◌, true, List, [], ◌∷◌, ◌++◌, refl, sym, ◌∙◌, ap, arith, add-zero}
use Rattle.std.proofs.lemmas.Bool.{eqb-true, eq-eqb}
use Rattle.io_model.specs.Kinds.{kind_after, kind_at, is_kind}
use Rattle.io_model.specs.declared.file.Extent.{Extent}
use Rattle.io_model.specs.declared.file.Kind.{Kind}
use Rattle.io_model.specs.declared.file.Kind.TheVariants.{Hole, Delalloc, Unwritten, Mapped}
use Rattle.range_core.specs.Kinds.{kinds_from}

-- kinds that the test finds equal are equal
pub is_kind-true : (a b : Kind) → is_kind a b ≡ true → a ≡ b
is_kind-true Hole Hole e = refl
is_kind-true Hole Delalloc e = absurd (cc)
is_kind-true Hole (Unwritten d) e = absurd (cc)
is_kind-true Hole (Mapped d) e = absurd (cc)
is_kind-true Delalloc Hole e = absurd (cc)
is_kind-true Delalloc Delalloc e = refl
is_kind-true Delalloc (Unwritten d) e = absurd (cc)
is_kind-true Delalloc (Mapped d) e = absurd (cc)
is_kind-true (Unwritten d) Hole e = absurd (cc)
is_kind-true (Unwritten d) Delalloc e = absurd (cc)
is_kind-true (Unwritten d) (Unwritten b) e = ap Unwritten (eqb-true d b e)
is_kind-true (Unwritten d) (Mapped b) e = absurd (cc)
is_kind-true (Mapped d) Hole e = absurd (cc)
is_kind-true (Mapped d) Delalloc e = absurd (cc)
is_kind-true (Mapped d) (Unwritten b) e = absurd (cc)
is_kind-true (Mapped d) (Mapped b) e = ap Mapped (eqb-true d b e)

pub is_kind-same : (a : Kind) → is_kind a a ≡ true
is_kind-same Hole = refl
is_kind-same Delalloc = refl
is_kind-same (Unwritten d) = eq-eqb d d refl
is_kind-same (Mapped d) = eq-eqb d d refl

-- the kind of the first block of an extent
pub kind_after-zero : (k : Kind) → kind_after k 0 ≡ k
kind_after-zero Hole = refl
kind_after-zero Delalloc = refl
kind_after-zero (Unwritten d) = ap Unwritten (add-zero d)
kind_after-zero (Mapped d) = ap Mapped (add-zero d)

-- one more kind
pub kinds_from-more : (es : List Extent) (a n : ℕ) → kinds_from es a (suc n) ≡ kinds_from es a n ++ kind_at es (a + n) ∷ []
kinds_from-more es a zero = ap (λ b. kind_at es b ∷ []) (sym (add-zero a))
kinds_from-more es a (suc n) =
    ap (λ l. kind_at es a ∷ l) (kinds_from-more es (a + 1) n ∙ ap (λ b. kinds_from es (a + 1) n ++ kind_at es b ∷ []) (omega arith))

-- extents that give the same kinds below a block
pub kinds_from-same : (es fs : List Extent) (a n : ℕ) → ((x : ℕ) → a ≤ x → x < a + n → kind_at es x ≡ kind_at fs x) → kinds_from es a n ≡ kinds_from fs a n
kinds_from-same es fs a zero h = refl
kinds_from-same es fs a (suc n) h =
    ap (λ k. k ∷ kinds_from es (a + 1) n) (h a (omega arith) (omega arith))
    ∙ ap (λ l. kind_at fs a ∷ l) (kinds_from-same es fs (a + 1) n (λ x l m. h x (omega arith) (omega arith)))
