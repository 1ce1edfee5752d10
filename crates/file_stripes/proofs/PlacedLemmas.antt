-- Merged extents without their holes.
use Rattle.std.proofs.Common.{◌≡◌, ℕ, zero, suc, ◌+◌, ◌-◌, ◌<◌, ◌≤◌, Bool, true, false, ◌&&◌, nat_le, nat_lt, if◌then◌else◌, List, [], ◌∷◌, ◌++◌, length, take, get_or, All, refl, sym, ◌∙◌, ap, arith, add-zero}
use Rattle.std.proofs.lemmas.Bool.Decides.{nat_tests}
use Rattle.std.proofs.lemmas.List.{take_more}
use Rattle.std.proofs.lemmas.List.Elements.{All-cons, All-head, All-nil, All-tail}
use Rattle.io_model.specs.Fitting.{is_merged_from}
use Rattle.io_model.specs.Kinds.{covers, kind_after, kind_at}
use Rattle.io_model.specs.declared.file.Extent.{Extent}
use Rattle.io_model.specs.declared.file.Kind.{Kind}
use Rattle.io_model.specs.declared.file.Kind.TheVariants.{Hole, Delalloc, Unwritten, Mapped}
use Rattle.file_stripes.specs.Kinds.{IsFirstRun, LiesIn, NumbersFit, has_space, kinds_from}
use Rattle.file_stripes.specs.Runs.{IsFirstExtent, placed}
use Rattle.file_stripes.proofs.MergedLemmas.{Heads, heads, merged-le}
use Rattle.file_stripes.proofs.RunLemmas.{kind_before}

placed_front : (t : Bool) (e : Extent) (es more : List Extent) → placed (es ++ more) ≡ placed es ++ placed more → (if t then e ∷ placed (es ++ more) else placed (es ++ more)) ≡ (if t then e ∷ placed es else placed es) ++ placed more
placed_front true e es more h = ap (λ l. e ∷ l) h
placed_front false e es more h = h

pub placed-append : (es more : List Extent) → placed (es ++ more) ≡ placed es ++ placed more
placed-append [] more = refl
placed-append (e ∷ es) more = placed_front (has_space e.kind) e es more (placed-append es more)

pub placed_more : (es : List Extent) (i : ℕ) (d : Extent) (kept new : List Extent) → i < length es → kept ≡ placed (take i es) → new ≡ kept ++ placed (get_or es i d ∷ []) → new ≡ placed (take (i + 1) es)
placed_more es i d kept new h k n =
    n ∙ ap (λ l. l ++ placed (get_or es i d ∷ [])) k ∙ sym (placed-append (take i es) (get_or es i d ∷ [])) ∙ ap placed (sym (take_more es i d h))

-- what is left says nothing of the blocks before the first
below_front : (t : Bool) (e : Extent) (es : List Extent) (x : ℕ) → x < e.block → kind_at (placed es) x ≡ Hole → kind_at (if t then e ∷ placed es else placed es) x ≡ Hole
below_front true e es x h m = kind_before e (placed es) x h ∙ m
below_front false e es x h m = m

placed_below : (a b x : ℕ) (es : List Extent) → is_merged_from a b es ≡ true → x < a → kind_at (placed es) x ≡ Hole
placed_below a b x [] h m = refl
placed_below a b x (e ∷ es) h m =
    let p = heads a b e es h in
    below_front (has_space e.kind) e es x (omega (arith, p.at)) (placed_below (a + e.length) b x es p.rest (omega arith))

is_hole : (k : Kind) (n : ℕ) → IsFirstRun k n → has_space k ≡ false → k ≡ Hole
is_hole Hole n h m = refl
is_hole Delalloc n h m = absurd h
is_hole (Unwritten d) n h m = absurd (cc)
is_hole (Mapped d) n h m = absurd (cc)

abbrev choice : Bool → Kind → Kind → Kind
choice t x y = if t then x else y

covered_below : (p l x : ℕ) → (nat_le p x && nat_lt x (p + l)) ≡ true → x < p + l
covered_below p l x h = grind (arith, nat_tests)

hole_front : (c : Bool) (k q now : Kind) (i : ℕ) → k ≡ Hole → (c ≡ true → now ≡ Hole) → (c ≡ false → now ≡ q) → now ≡ choice c (kind_after k i) q
hole_front true k q now i is h m = h refl ∙ ap (λ y. kind_after y i) (sym is)
hole_front false k q now i is h m = m refl

kind_front : (t : Bool) (a b x : ℕ) (e : Extent) (es : List Extent) → has_space e.kind ≡ t → Heads a b e es → IsFirstExtent e → kind_at (placed es) x ≡ kind_at es x → kind_at (if t then e ∷ placed es else placed es) x ≡ kind_at (e ∷ es) x
kind_front true a b x e es is p first h = ap (λ q. choice (covers e x) (kind_after e.kind (x - e.block)) q) h
kind_front false a b x e es is p first h =
    hole_front (covers e x) e.kind (kind_at es x) (kind_at (placed es) x) (x - e.block) (is_hole e.kind e.length first is)
    (λ c. placed_below (a + e.length) b x es p.rest (omega (arith, p.at, covered_below e.block e.length x c)))
    (λ c. h)

-- holes need no extent
pub placed_kind : (a b x : ℕ) (es : List Extent) → is_merged_from a b es ≡ true → All IsFirstExtent es → kind_at (placed es) x ≡ kind_at es x
placed_kind a b x [] h f = refl
placed_kind a b x (e ∷ es) h f =
    let p = heads a b e es h in
    kind_front (has_space e.kind) a b x e es refl p (All-head IsFirstExtent e es f) (placed_kind (a + e.length) b x es p.rest (All-tail IsFirstExtent e es f))

-- extents that give the same kinds
pub kinds_from-same : (es fs : List Extent) (a n : ℕ) → ((x : ℕ) → a ≤ x → x < a + n → kind_at es x ≡ kind_at fs x) → kinds_from es a n ≡ kinds_from fs a n
kinds_from-same es fs a zero h = refl
kinds_from-same es fs a (suc n) h =
    ap (λ k. k ∷ kinds_from es (a + 1) n) (h a (omega arith) (omega arith))
    ∙ ap (λ l. kind_at fs a ∷ l) (kinds_from-same es fs (a + 1) n (λ x l m. h x (omega arith) (omega arith)))

pub placed_kinds : (a b n : ℕ) (es : List Extent) → is_merged_from a b es ≡ true → All IsFirstExtent es → kinds_from (placed es) a n ≡ kinds_from es a n
placed_kinds a b n es h f = kinds_from-same (placed es) es a n (λ x l m. placed_kind a b x es h f)

-- one more kind
pub kinds_from-more : (es : List Extent) (a n : ℕ) → kinds_from es a (suc n) ≡ kinds_from es a n ++ kind_at es (a + n) ∷ []
kinds_from-more es a zero = ap (λ b. kind_at es b ∷ []) (sym (add-zero a))
kinds_from-more es a (suc n) =
    ap (λ l. kind_at es a ∷ l) (kinds_from-more es (a + 1) n ∙ ap (λ b. kinds_from es (a + 1) n ++ kind_at es b ∷ []) (omega arith))

-- so many kinds, and so many more
pub kinds_from-add : (es : List Extent) (a n m : ℕ) → kinds_from es a (n + m) ≡ kinds_from es a n ++ kinds_from es (a + n) m
kinds_from-add es a zero m =
    ap (kinds_from es a) (omega arith) ∙ ap (λ b. kinds_from es b m) (sym (add-zero a))
kinds_from-add es a (suc n) m =
    let s : suc n + m ≡ suc (n + m) = omega arith in
    let t : a + 1 + n ≡ a + suc n = omega arith in
    ap (kinds_from es a) s ∙ ap (λ l. kind_at es a ∷ l) (kinds_from-add es (a + 1) n m ∙ ap (λ b. kinds_from es (a + 1) n ++ kinds_from es b m) t)

first_fits : (k : Kind) (n : ℕ) → IsFirstRun k n → NumbersFit k n
first_fits Hole n h = tt
first_fits Delalloc n h = tt
first_fits (Unwritten d) n h = h
first_fits (Mapped d) n h = h

lies_front : (t : Bool) (first n : ℕ) (e : Extent) (es : List Extent) → has_space e.kind ≡ t → first ≤ e.block → e.block + e.length ≤ first + n → IsFirstExtent e → All (LiesIn first n) (placed es) → All (LiesIn first n) (if t then e ∷ placed es else placed es)
lies_front true first n e es is low high f h =
    All-cons (LiesIn first n) e (placed es) (record { placed = is; low = low; high = high; numbers = first_fits e.kind e.length f }) h
lies_front false first n e es is low high f h = h

-- those with space lie among the blocks
pub placed_lie : (first n a b : ℕ) (es : List Extent) → is_merged_from a b es ≡ true → first ≤ a → b ≤ first + n → All IsFirstExtent es → All (LiesIn first n) (placed es)
placed_lie first n a b [] h l m f = All-nil (LiesIn first n)
placed_lie first n a b (e ∷ es) h l m f =
    let p = heads a b e es h in
    let up = merged-le (a + e.length) b es p.rest in
    lies_front (has_space e.kind) first n e es refl (omega (arith, p.at)) (omega (arith, p.at)) (All-head IsFirstExtent e es f)
    (placed_lie first n (a + e.length) b es p.rest (omega arith) m (All-tail IsFirstExtent e es f))
