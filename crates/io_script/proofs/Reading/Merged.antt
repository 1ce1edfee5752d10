-- The holes of merged extents are determined by the other extents.
use Rattle.std.proofs.Common.{◌≡◌, ℕ, ◌+◌, ◌<◌, ◌==◌, ◌&&◌, not, Bool, true, false, nat_lt, List, [], ◌∷◌, IsTrue, refl, sym, ap, ap₂, subst, ◌∙◌, arith}
use Rattle.std.proofs.lemmas.Bool.{false≢true, and_parts, eqb-true, ltb-true}
use Rattle.io_model.specs.Fitting.{is_merged_from, could_be_joined}
use Rattle.io_model.specs.Kinds.{kind_after, is_kind}
use Rattle.io_model.specs.declared.file.Extent.{Extent}
use Rattle.io_model.specs.declared.file.Kind.{Kind}
use Rattle.io_model.specs.declared.file.Kind.TheVariants.{Hole, Delalloc, Unwritten, Mapped}
use Rattle.io_script.proofs.Extents.{merged_next, merged_within}
use Rattle.io_script.proofs.Reading.Lists.{heads, tails, nil_apart}

abbrev pub is_span : Kind → Bool
is_span Hole = false
is_span Delalloc = true
is_span (Unwritten d) = true
is_span (Mapped d) = true

-- an extent before others, where it is no hole
abbrev pub onto_spans : Extent → Kind → List Extent → List Extent
onto_spans e Hole es = es
onto_spans e Delalloc es = e ∷ es
onto_spans e (Unwritten d) es = e ∷ es
onto_spans e (Mapped d) es = e ∷ es

-- the extents that are no holes
abbrev pub spans : List Extent → List Extent
spans [] = []
spans (e ∷ es) = onto_spans e e.kind (spans es)

onto_spans-span : (e : Extent) (k : Kind) (es : List Extent) → is_span k ≡ true → onto_spans e k es ≡ e ∷ es
onto_spans-span e Hole es h = absurd (false≢true h)
onto_spans-span e Delalloc es h = refl
onto_spans-span e (Unwritten d) es h = refl
onto_spans-span e (Mapped d) es h = refl

onto_spans-hole : (e : Extent) (k : Kind) (es : List Extent) → k ≡ Hole → onto_spans e k es ≡ es
onto_spans-hole e k es h = ap (λ l. onto_spans e l es) h

-- after a hole comes no other
span_after_hole : (k l : Kind) (n : ℕ) → k ≡ Hole → IsTrue (not (is_kind (kind_after k n) l)) → is_span l ≡ true
span_after_hole k Hole n e h = absurd (false≢true (subst (λ j. IsTrue (not (is_kind (kind_after j n) Hole))) e h))
span_after_hole k Delalloc n e h = refl
span_after_hole k (Unwritten d) n e h = refl
span_after_hole k (Mapped d) n e h = refl

merged_positive : (b n : ℕ) (e : Extent) (es : List Extent) → IsTrue (is_merged_from b n (e ∷ es)) → 0 < e.length
merged_positive b n e [] h = ltb-true 0 e.length (and_parts (nat_lt 0 e.length) (e.block + e.length == n) (and_parts (e.block == b) (nat_lt 0 e.length && e.block + e.length == n) h).1).0
merged_positive b n e (next ∷ es) h =
    ltb-true 0 e.length (and_parts (nat_lt 0 e.length) (not (could_be_joined e next) && is_merged_from (b + e.length) n (next ∷ es))
    (and_parts (e.block == b) (nat_lt 0 e.length && (not (could_be_joined e next) && is_merged_from (b + e.length) n (next ∷ es))) h).1).0

merged_apart : (b n : ℕ) (e next : Extent) (es : List Extent) → IsTrue (is_merged_from b n (e ∷ next ∷ es)) → IsTrue (not (could_be_joined e next))
merged_apart b n e next es h =
    (and_parts (not (could_be_joined e next)) (is_merged_from (b + e.length) n (next ∷ es))
    (and_parts (nat_lt 0 e.length) (not (could_be_joined e next) && is_merged_from (b + e.length) n (next ∷ es))
    (and_parts (e.block == b) (nat_lt 0 e.length && (not (could_be_joined e next) && is_merged_from (b + e.length) n (next ∷ es))) h).1).1).0

-- after a hole stands the first of the extents that are none
first_span : (b n : ℕ) (e next : Extent) (es : List Extent) → e.kind ≡ Hole → IsTrue (is_merged_from b n (e ∷ next ∷ es)) → spans (next ∷ es) ≡ next ∷ spans es
first_span b n e next es hole h = onto_spans-span next next.kind (spans es) (span_after_hole e.kind next.kind e.length hole (merged_apart b n e next es h))

extent_of : ℕ → ℕ → Kind → Extent
extent_of block length kind = record { block = block; length = length; kind = kind }

pub extent_same : (e f : Extent) → e.block ≡ f.block → e.length ≡ f.length → e.kind ≡ f.kind → e ≡ f
unfolding extent_of
extent_same e f p q r = ap (λ b. extent_of b e.length e.kind) p ∙ ap (λ l. extent_of f.block l e.kind) q ∙ ap (extent_of f.block f.length) r

-- a hole is as long as it is to the next extent, or to the end
hole_length : (b n : ℕ) (e f : Extent) (es fs : List Extent) → e.kind ≡ Hole → f.kind ≡ Hole → IsTrue (is_merged_from b n (e ∷ es)) → IsTrue (is_merged_from b n (f ∷ fs))
    → spans es ≡ spans fs → e.length ≡ f.length
hole_length b n e f [] [] he hf me mf s =
    let p = eqb-true (b + e.length) n (merged_next b n e [] me).1 in
    let q = eqb-true (b + f.length) n (merged_next b n f [] mf).1 in omega (arith, p, q)
hole_length b n e f [] (g ∷ gs) he hf me mf s = absurd (nil_apart g (spans gs) (s ∙ first_span b n f g gs hf mf))
hole_length b n e f (g ∷ gs) [] he hf me mf s = absurd (nil_apart g (spans gs) (sym s ∙ first_span b n e g gs he me))
hole_length b n e f (g ∷ gs) (h ∷ hs) he hf me mf s =
    let same = heads g h (spans gs) (spans hs) (sym (first_span b n e g gs he me) ∙ s ∙ first_span b n f h hs hf mf) in
    let p = (merged_next (b + e.length) n g gs (merged_next b n e (g ∷ gs) me).1).0 in
    let q = (merged_next (b + f.length) n h hs (merged_next b n f (h ∷ hs) mf).1).0 in
    let r : g.block ≡ h.block = ap (λ x. x.block) same in
    omega (arith, p, q, r)

-- a hole does not stand where the first of the other extents begins
hole_apart : (b n : ℕ) (e f : Extent) (es rest : List Extent) → e.kind ≡ Hole → IsTrue (is_merged_from b n (e ∷ es)) → f.block ≡ b → spans es ≡ f ∷ rest → ⊥
hole_apart b n e f [] rest he me hf s = nil_apart f rest s
hole_apart b n e f (g ∷ gs) rest he me hf s =
    let same = heads g f (spans gs) rest (sym (first_span b n e g gs he me) ∙ s) in
    let p = (merged_next (b + e.length) n g gs (merged_next b n e (g ∷ gs) me).1).0 in
    let q : g.block ≡ f.block = ap (λ x. x.block) same in
    omega (arith, p, q, hf, merged_positive b n e (g ∷ gs) me)

none_apart : (b n : ℕ) (e : Extent) (es : List Extent) → IsTrue (is_merged_from b n []) → IsTrue (is_merged_from b n (e ∷ es)) → ⊥
none_apart b n e es h m =
    let ends = eqb-true b n h in
    omega (arith, ends, merged_within (b + e.length) n es (merged_next b n e es m).1, merged_positive b n e es m)

-- merged extents of as many blocks, of which the same are no holes, are the same
merged_step : (k l : Kind) (b n : ℕ) (e f : Extent) (es fs : List Extent) → e.kind ≡ k → f.kind ≡ l → IsTrue (is_merged_from b n (e ∷ es)) → IsTrue (is_merged_from b n (f ∷ fs))
    → onto_spans e k (spans es) ≡ onto_spans f l (spans fs) → (e ≡ f) × (spans es ≡ spans fs)
merged_step Hole Hole b n e f es fs he hf me mf s =
    (extent_same e f ((merged_next b n e es me).0 ∙ sym (merged_next b n f fs mf).0) (hole_length b n e f es fs he hf me mf s) (he ∙ sym hf), s)
merged_step Hole Delalloc b n e f es fs he hf me mf s = absurd (hole_apart b n e f es (spans fs) he me (merged_next b n f fs mf).0 s)
merged_step Hole (Unwritten d) b n e f es fs he hf me mf s = absurd (hole_apart b n e f es (spans fs) he me (merged_next b n f fs mf).0 s)
merged_step Hole (Mapped d) b n e f es fs he hf me mf s = absurd (hole_apart b n e f es (spans fs) he me (merged_next b n f fs mf).0 s)
merged_step Delalloc Hole b n e f es fs he hf me mf s = absurd (hole_apart b n f e fs (spans es) hf mf (merged_next b n e es me).0 (sym s))
merged_step Delalloc Delalloc b n e f es fs he hf me mf s = (heads e f (spans es) (spans fs) s, tails e f (spans es) (spans fs) s)
merged_step Delalloc (Unwritten c) b n e f es fs he hf me mf s = (heads e f (spans es) (spans fs) s, tails e f (spans es) (spans fs) s)
merged_step Delalloc (Mapped c) b n e f es fs he hf me mf s = (heads e f (spans es) (spans fs) s, tails e f (spans es) (spans fs) s)
merged_step (Unwritten d) Hole b n e f es fs he hf me mf s = absurd (hole_apart b n f e fs (spans es) hf mf (merged_next b n e es me).0 (sym s))
merged_step (Unwritten d) Delalloc b n e f es fs he hf me mf s = (heads e f (spans es) (spans fs) s, tails e f (spans es) (spans fs) s)
merged_step (Unwritten d) (Unwritten c) b n e f es fs he hf me mf s = (heads e f (spans es) (spans fs) s, tails e f (spans es) (spans fs) s)
merged_step (Unwritten d) (Mapped c) b n e f es fs he hf me mf s = (heads e f (spans es) (spans fs) s, tails e f (spans es) (spans fs) s)
merged_step (Mapped d) Hole b n e f es fs he hf me mf s = absurd (hole_apart b n f e fs (spans es) hf mf (merged_next b n e es me).0 (sym s))
merged_step (Mapped d) Delalloc b n e f es fs he hf me mf s = (heads e f (spans es) (spans fs) s, tails e f (spans es) (spans fs) s)
merged_step (Mapped d) (Unwritten c) b n e f es fs he hf me mf s = (heads e f (spans es) (spans fs) s, tails e f (spans es) (spans fs) s)
merged_step (Mapped d) (Mapped c) b n e f es fs he hf me mf s = (heads e f (spans es) (spans fs) s, tails e f (spans es) (spans fs) s)

pub merged_one : (b n : ℕ) (es fs : List Extent) → IsTrue (is_merged_from b n es) → IsTrue (is_merged_from b n fs) → spans es ≡ spans fs → es ≡ fs
merged_one b n [] [] me mf s = refl
merged_one b n [] (f ∷ fs) me mf s = absurd (none_apart b n f fs me mf)
merged_one b n (e ∷ es) [] me mf s = absurd (none_apart b n e es mf me)
merged_one b n (e ∷ es) (f ∷ fs) me mf s =
    let one = merged_step e.kind f.kind b n e f es fs refl refl me mf s in
    let next = subst (λ x. IsTrue (is_merged_from (b + x.length) n fs)) (sym one.0) (merged_next b n f fs mf).1 in
    ap₂ (λ x xs. x ∷ xs) one.0 (merged_one (b + e.length) n es fs (merged_next b n e es me).1 next one.1)
