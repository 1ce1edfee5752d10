-- Kinds of blocks: where an extent is laid over others, and which numbers they have.
use Rattle.std.proofs.Common.{◌≡◌, ℕ, zero, suc, ◌+◌, ◌-◌, ◌<◌, ◌^◌, Bool, true, false, ◌&&◌, nat_le, nat_lt, if◌then◌else◌, List, [], ◌∷◌, length, replicate, set, drop, get_or, All, IfSome, IsTrue, refl, sym, ◌∙◌, ap, subst, arith, add-zero}
use Rattle.std.proofs.lemmas.Bool.{eqb-true}
use Rattle.std.proofs.lemmas.Bool.Decides.{nat_tests}
use Rattle.std.proofs.lemmas.List.{drop_more}
use Rattle.std.proofs.lemmas.List.Elements.{All-cons, All-get_or, All-head, All-nil, All-tail}
use Rattle.io_model.specs.Kinds.{covers, device_number, is_kind, kind_after, kind_at}
use Rattle.io_model.specs.declared.file.Extent.{Extent}
use Rattle.io_model.specs.declared.file.Kind.{Kind}
use Rattle.io_model.specs.declared.file.Kind.TheVariants.{Hole, Delalloc, Unwritten, Mapped}
use Rattle.file_stripes.specs.Kinds.{IsFirstKind, IsFirstRun, LiesIn, NumbersFit, has_space, kinds_from, kinds_over}

-- kinds that the test finds equal are equal
pub is_kind-true : (a b : Kind) → is_kind a b ≡ true → a ≡ b
is_kind-true Hole Hole e = refl
is_kind-true Hole Delalloc e = absurd (cc)
is_kind-true Hole (Unwritten d) e = absurd (cc)
is_kind-true Hole (Mapped d) e = absurd (cc)
is_kind-true Delalloc Hole e = absurd (cc)
is_kind-true Delalloc Delalloc e = refl
is_kind-true Delalloc (Unwritten d) e = absurd (cc)
is_kind-true Delalloc (Mapped d) e = absurd (cc)
is_kind-true (Unwritten d) Hole e = absurd (cc)
is_kind-true (Unwritten d) Delalloc e = absurd (cc)
is_kind-true (Unwritten d) (Unwritten b) e = ap Unwritten (eqb-true d b e)
is_kind-true (Unwritten d) (Mapped b) e = absurd (cc)
is_kind-true (Mapped d) Hole e = absurd (cc)
is_kind-true (Mapped d) Delalloc e = absurd (cc)
is_kind-true (Mapped d) (Unwritten b) e = absurd (cc)
is_kind-true (Mapped d) (Mapped b) e = ap Mapped (eqb-true d b e)

-- the kind of the first block of an extent
pub kind_after-zero : (k : Kind) → kind_after k 0 ≡ k
kind_after-zero Hole = refl
kind_after-zero Delalloc = refl
kind_after-zero (Unwritten d) = ap Unwritten (add-zero d)
kind_after-zero (Mapped d) = ap Mapped (add-zero d)

-- the kind so many blocks after one that is so many blocks after the first
pub kind_after-add : (k : Kind) (m n : ℕ) → kind_after (kind_after k m) n ≡ kind_after k (m + n)
kind_after-add Hole m n = refl
kind_after-add Delalloc m n = refl
kind_after-add (Unwritten d) m n = ap Unwritten (omega arith)
kind_after-add (Mapped d) m n = ap Mapped (omega arith)

-- a number in a run is a number of a device
pub number_fits : (k : Kind) (n i : ℕ) → NumbersFit k n → i < n → IfSome (device_number k) (λ d. d + i < 2 ^ 32)
number_fits Hole n i h m = tt
number_fits Delalloc n i h m = tt
number_fits (Unwritten d) n i h m = omega arith
number_fits (Mapped d) n i h m = omega arith

pub length-kinds_from : (es : List Extent) (b n : ℕ) → length (kinds_from es b n) ≡ n
length-kinds_from es b zero = refl
length-kinds_from es b (suc n) = ap suc (length-kinds_from es (b + 1) n)

-- without extents all blocks are holes
pub kinds_from-none : (b n : ℕ) → replicate n Hole ≡ kinds_from [] b n
kinds_from-none b zero = refl
kinds_from-none b (suc n) = ap (λ l. Hole ∷ l) (kinds_from-none (b + 1) n)

-- an extent in front of others says the kinds of its blocks
pub kinds_over-from : (e : Extent) (es : List Extent) (b n : ℕ) → kinds_over e b (kinds_from es b n) ≡ kinds_from (e ∷ es) b n
kinds_over-from e es b zero = refl
kinds_over-from e es b (suc n) = ap (λ l. kind_at (e ∷ es) b ∷ l) (kinds_over-from e es (b + 1) n)

-- the first blocks of an extent
abbrev pub first_of : Extent → ℕ → Extent
first_of e i = record e { length = i }

abbrev choice : Bool → Kind → Kind → Kind
choice t x y = if t then x else y

none_covered : (p x : ℕ) → (nat_le p x && nat_lt x (p + 0)) ≡ false
none_covered p x = grind (arith, nat_tests)

covered_same : (p i x : ℕ) → (x ≡ p + i → ⊥) → (nat_le p x && nat_lt x (p + (i + 1))) ≡ (nat_le p x && nat_lt x (p + i))
covered_same p i x h = grind (arith, nat_tests)

covered_here : (p i : ℕ) → (nat_le p (p + i) && nat_lt (p + i) (p + (i + 1))) ≡ true
covered_here p i = grind (arith, nat_tests)

-- none of an extent says nothing
pub over_none : (e : Extent) (b : ℕ) (ks : List Kind) → ks ≡ kinds_over (first_of e 0) b ks
over_none e b [] = refl
over_none e b (k ∷ ks) =
    ap (λ l. k ∷ l) (over_none e (b + 1) ks)
    ∙ ap (λ t. choice t (kind_after e.kind (b - e.block)) k ∷ kinds_over (first_of e 0) (b + 1) ks) (sym (none_covered e.block b))

over_past : (e : Extent) (i b : ℕ) (ks : List Kind) → e.block + i < b → kinds_over (first_of e i) b ks ≡ kinds_over (first_of e (i + 1)) b ks
over_past e i b [] h = refl
over_past e i b (k ∷ ks) h =
    let other : b ≡ e.block + i → ⊥ = λ q. omega arith in
    ap (λ l. choice (covers (first_of e i) b) (kind_after e.kind (b - e.block)) k ∷ l) (over_past e i (b + 1) ks (omega arith))
    ∙ ap (λ t. choice t (kind_after e.kind (b - e.block)) k ∷ kinds_over (first_of e (i + 1)) (b + 1) ks) (sym (covered_same e.block i b other))

-- one more block of an extent
pub over_more : (e : Extent) (i b j : ℕ) (ks : List Kind) → b + j ≡ e.block + i → j < length ks → set (kinds_over (first_of e i) b ks) j (kind_after e.kind i) ≡ kinds_over (first_of e (i + 1)) b ks
over_more e i b j [] h m = absurd (omega arith)
over_more e i b zero (k ∷ ks) h m =
    let at : e.block + i ≡ b = omega arith in
    let C : ℕ → Type 0 = λ x. (nat_le e.block x && nat_lt x (e.block + (i + 1))) ≡ true in
    let here : C b = subst C at (covered_here e.block i) in
    ap (λ l. kind_after e.kind i ∷ l) (over_past e i (b + 1) ks (omega arith))
    ∙ ap (λ n. kind_after e.kind n ∷ kinds_over (first_of e (i + 1)) (b + 1) ks) (omega arith)
    ∙ ap (λ t. choice t (kind_after e.kind (b - e.block)) k ∷ kinds_over (first_of e (i + 1)) (b + 1) ks) (sym here)
over_more e i b (suc j) (k ∷ ks) h m =
    let other : b ≡ e.block + i → ⊥ = λ q. omega arith in
    ap (λ l. choice (covers (first_of e i) b) (kind_after e.kind (b - e.block)) k ∷ l) (over_more e i (b + 1) j ks (omega arith) (omega arith))
    ∙ ap (λ t. choice t (kind_after e.kind (b - e.block)) k ∷ kinds_over (first_of e (i + 1)) (b + 1) ks) (sym (covered_same e.block i b other))

-- one more extent is laid
pub laid_more : (es : List Extent) (i n : ℕ) (d : Extent) (old new : List Kind) → i < length es → old ≡ kinds_from (drop (length es - i) es) 0 n → new ≡ kinds_over (get_or es (length es - 1 - i) d) 0 old → new ≡ kinds_from (drop (length es - (i + 1)) es) 0 n
laid_more es i n d old new m o k =
    let e : Extent = get_or es (length es - 1 - i) d in
    let at : length es - (i + 1) ≡ length es - 1 - i = omega arith in
    let next : length es - (i + 1) + 1 ≡ length es - i = omega arith in
    let rest : drop (length es - (i + 1)) es ≡ e ∷ drop (length es - i) es =
    drop_more es (length es - (i + 1)) d (omega arith)
    ∙ ap (λ x. get_or es x d ∷ drop (length es - (i + 1) + 1) es) at
    ∙ ap (λ x. e ∷ drop x es) next in
    k ∙ ap (kinds_over e 0) o ∙ kinds_over-from e (drop (length es - i) es) 0 n ∙ ap (λ l. kinds_from l 0 n) (sym rest)

-- an extent of a file lies among as many blocks
pub lies_at : (es xs : List Extent) (i n m : ℕ) (d : Extent) → All (LiesIn 0 n) es → xs ≡ es → i < length xs → m ≡ n → LiesIn 0 m (get_or xs i d)
lies_at es xs i n m d h is l e =
    let A : List Extent → Type 0 = λ ys. All (LiesIn 0 n) ys in
    let L : ℕ → Type 0 = λ x. LiesIn 0 x (get_or xs i d) in
    subst L (sym e) (All-get_or (LiesIn 0 n) xs i d l (subst A (sym is) h))

-- what the blocks of an extent with space are before the first call
first_placed : (k : Kind) (n : ℕ) → IsTrue (has_space k) → NumbersFit k n → IsFirstRun k n
first_placed Hole n p f = tt
first_placed Delalloc n p f = absurd (cc)
first_placed (Unwritten d) n p f = f
first_placed (Mapped d) n p f = f

first_after : (k : Kind) (n i : ℕ) → IsFirstRun k n → i < n → IsFirstKind (kind_after k i)
first_after Hole n i h m = tt
first_after Delalloc n i h m = h
first_after (Unwritten d) n i h m = omega arith
first_after (Mapped d) n i h m = omega arith

covered_within : (p l x : ℕ) → (nat_le p x && nat_lt x (p + l)) ≡ true → x - p < l
covered_within p l x h = grind (arith, nat_tests)

first_choice : (t : Bool) (x y : Kind) → (t ≡ true → IsFirstKind x) → IsFirstKind y → IsFirstKind (choice t x y)
first_choice true x y h k = h refl
first_choice false x y h k = k

-- the kinds of a file before the first call
pub first_at : (n : ℕ) (es : List Extent) (x : ℕ) → All (LiesIn 0 n) es → IsFirstKind (kind_at es x)
first_at n [] x h = tt
first_at n (e ∷ es) x h =
    let l : LiesIn 0 n e = All-head (LiesIn 0 n) e es h in
    first_choice (covers e x) (kind_after e.kind (x - e.block)) (kind_at es x)
    (λ c. first_after e.kind e.length (x - e.block) (first_placed e.kind e.length l.placed l.numbers) (covered_within e.block e.length x c))
    (first_at n es x (All-tail (LiesIn 0 n) e es h))

pub first_kinds : (n : ℕ) (es : List Extent) (b m : ℕ) → All (LiesIn 0 n) es → All IsFirstKind (kinds_from es b m)
first_kinds n es b zero h = All-nil IsFirstKind
first_kinds n es b (suc m) h = All-cons IsFirstKind (kind_at es b) (kinds_from es (b + 1) m) (first_at n es b h) (first_kinds n es (b + 1) m h)
