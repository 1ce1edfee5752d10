use Rattle.std.proofs.Common.{◌≡◌, ℕ, zero, suc, ◌+◌, ◌-◌, ◌<◌, ◌≤◌, ◌^◌, true, false, List, [], ◌∷◌, ◌++◌, length, take, drop, get_or, min, IfSome, refl, sym, ◌∙◌, ap, subst, arith}
use Rattle.std.proofs.lemmas.Bool.{eq-eqb, eqb-true, both_ways}
use Rattle.std.proofs.lemmas.List.{drop_at, drop-drop, drop-append-le, take-append-le}
use Rattle.io_model.specs.Kinds.{device_number, kind_after, is_kind}
use Rattle.io_model.specs.declared.file.Extent.{Extent}
use Rattle.io_model.specs.declared.file.Kind.{Kind}
use Rattle.io_model.specs.declared.file.Kind.TheVariants.{Hole, Delalloc, Unwritten, Mapped}
use Rattle.extent_map.specs.Expansion.{run_of, kinds_of, NumbersFit}
use Rattle.extent_map.specs.Keeping.{Apart, FollowOn, LiesIn, goes_on, start_of}
use Rattle.extent_map.specs.Longest.{IsLongest, IsLookup, begins}
use Rattle.extent_map.specs.Splicing.{run_at}
use Rattle.extent_map.proofs.Following.{ReadAt, fits_part, read_or, drop-run_of, kind_after-after, kind_after-zero, kinds_of-append, length-run_of, take-run_of}

-- kinds that the test finds equal are equal
pub is_kind-true : (a b : Kind) → is_kind a b ≡ true → a ≡ b
is_kind-true Hole Hole e = refl
is_kind-true Hole Delalloc e = absurd (cc)
is_kind-true Hole (Unwritten d) e = absurd (cc)
is_kind-true Hole (Mapped d) e = absurd (cc)
is_kind-true Delalloc Hole e = absurd (cc)
is_kind-true Delalloc Delalloc e = refl
is_kind-true Delalloc (Unwritten d) e = absurd (cc)
is_kind-true Delalloc (Mapped d) e = absurd (cc)
is_kind-true (Unwritten d) Hole e = absurd (cc)
is_kind-true (Unwritten d) Delalloc e = absurd (cc)
is_kind-true (Unwritten d) (Unwritten b) e = ap Unwritten (eqb-true d b e)
is_kind-true (Unwritten d) (Mapped b) e = absurd (cc)
is_kind-true (Mapped d) Hole e = absurd (cc)
is_kind-true (Mapped d) Delalloc e = absurd (cc)
is_kind-true (Mapped d) (Unwritten b) e = absurd (cc)
is_kind-true (Mapped d) (Mapped b) e = ap Mapped (eqb-true d b e)

pub is_kind-same : (a : Kind) → is_kind a a ≡ true
is_kind-same Hole = refl
is_kind-same Delalloc = refl
is_kind-same (Unwritten d) = eq-eqb d d refl
is_kind-same (Mapped d) = eq-eqb d d refl

pub begins_run : (k x : Kind) (n : ℕ) (t : List Kind) → 0 < n → begins k (run_of x n ++ t) ≡ is_kind k x
begins_run k x zero t h = absurd (omega arith)
begins_run k x (suc n) t h = refl

-- whether neighbours could be joined shows in the kinds
pub goes_on-kinds : (a : ℕ) (e : Extent) (es : List Extent) → FollowOn a es → goes_on e es ≡ begins (kind_after e.kind e.length) (kinds_of es)
goes_on-kinds a e [] f = refl
goes_on-kinds a e (next ∷ es) f = sym (begins_run (kind_after e.kind e.length) next.kind next.length (kinds_of es) f.0.some)

-- of extents apart, those after one of them
pub apart_back : (xs : List Extent) (e : Extent) (ys : List Extent) → Apart (xs ++ e ∷ ys) → (goes_on e ys ≡ false) × Apart ys
apart_back [] e ys h = h
apart_back (x ∷ xs) e ys h = apart_back xs e ys h.1

-- a run that the next kind does not go on with
no_longer : (k : Kind) (rest : ℕ) (t : List Kind) (n : ℕ) → begins (kind_after k rest) t ≡ false → take n (run_of k rest ++ t) ≡ run_of k n → n ≤ rest
no_longer k zero t zero h e = omega arith
no_longer k zero [] (suc n) h e = absurd (cc)
no_longer k zero (x ∷ t) (suc n) h e =
    let same : x ≡ k = cc in
    let yes : is_kind (kind_after k 0) x ≡ true = ap (λ q. is_kind q x) (kind_after-zero k) ∙ ap (is_kind k) same ∙ is_kind-same k in
    absurd (both_ways _ h yes)
no_longer k (suc r) t zero h e = omega arith
no_longer k (suc r) t (suc n) h e =
    let tails : take n (run_of (kind_after k 1) r ++ t) ≡ run_of (kind_after k 1) n = cc in
    let step : 1 + r ≡ suc r = omega arith in
    let none : begins (kind_after (kind_after k 1) r) t ≡ false = ap (λ q. begins q t) (kind_after-after k 1 r ∙ ap (kind_after k) step) ∙ h in
    omega (arith, no_longer (kind_after k 1) r t n none tails)

pub longest_run : (k : Kind) (rest : ℕ) (t : List Kind) (x : Kind) (n : ℕ) → 0 < rest → begins (kind_after k rest) t ≡ false → take n (run_of k rest ++ t) ≡ run_of x n → n ≤ rest
longest_run k rest t x zero some h e = omega arith
longest_run k zero t x (suc n) some h e = absurd (omega arith)
longest_run k (suc r) t x (suc n) some h e =
    let same : k ≡ x = cc in
    let P : Kind → Type 0 = λ q. take (suc n) (run_of k (suc r) ++ t) ≡ run_of q (suc n) in
    no_longer k (suc r) t (suc n) h (subst P (sym same) e)

-- what is left of the kinds from a block of an extent on
pub rest_of : (runs : List Extent) (i b : ℕ) (e : Extent) → ReadAt runs i e → e.block ≤ b → b ≤ e.block + e.length → drop b (kinds_of runs) ≡ run_of (kind_after e.kind (b - e.block)) (e.length - (b - e.block)) ++ kinds_of (drop (i + 1) runs)
rest_of runs i b e r h m =
    let s : ℕ = b - e.block in
    let tail : List Kind = kinds_of (drop (i + 1) runs) in
    let n : b ≡ start_of runs i + s = omega (arith, r.begins.at) in
    let le : s ≤ length (run_of e.kind e.length) = omega (arith, length-run_of e.kind e.length) in
    let whole : kinds_of runs ≡ kinds_of (take i runs) ++ (run_of e.kind e.length ++ tail) = ap kinds_of r.split ∙ kinds_of-append (take i runs) (e ∷ drop (i + 1) runs) in
    ap (λ x. drop x (kinds_of runs)) n
    ∙ sym (drop-drop s (start_of runs i) (kinds_of runs))
    ∙ ap (λ l. drop s (drop (start_of runs i) l)) whole
    ∙ ap (drop s) (drop_at (kinds_of (take i runs)) (run_of e.kind e.length ++ tail) (start_of runs i) refl)
    ∙ drop-append-le s (run_of e.kind e.length) tail le
    ∙ ap (λ l. l ++ tail) (drop-run_of e.kind s e.length (omega arith))

-- the first blocks of what is left are a run
pub run_here : (kinds : List Kind) (b : ℕ) (k : Kind) (rest n : ℕ) (t : List Kind) → drop b kinds ≡ run_of k rest ++ t → n ≤ rest → take n (drop b kinds) ≡ run_of k n
run_here kinds b k rest n t e h =
    ap (take n) e ∙ take-append-le n (run_of k rest) t (omega (arith, length-run_of k rest)) ∙ take-run_of k n rest h

-- the first blocks of what is left are the longest run
pub longest_here : (kinds : List Kind) (b max : ℕ) (k : Kind) (rest : ℕ) (t : List Kind) → drop b kinds ≡ run_of k rest ++ t → 0 < rest → begins (kind_after k rest) t ≡ false → IsLongest kinds b max (min max rest)
longest_here kinds b max k rest t e some h = λ x n le is. omega (arith, longest_run k rest t x n some h (ap (take n) (sym e) ∙ is))

-- no kind goes on with an extent of extents apart
pub nothing_goes_on : (runs : List Extent) (i s : ℕ) (e : Extent) → ReadAt runs i e → Apart runs → s ≤ e.length → begins (kind_after (kind_after e.kind s) (e.length - s)) (kinds_of (drop (i + 1) runs)) ≡ false
nothing_goes_on runs i s e r a h =
    let tail : List Extent = drop (i + 1) runs in
    let A : List Extent → Type 0 = Apart in
    let n : s + (e.length - s) ≡ e.length = omega arith in
    ap (λ q. begins q (kinds_of tail)) (kind_after-after e.kind s (e.length - s) ∙ ap (kind_after e.kind) n)
    ∙ sym (goes_on-kinds (start_of runs i + e.length) e tail r.back)
    ∙ (apart_back (take i runs) e tail (subst A r.split a)).0

-- what an extent that has a block says of the blocks from there on
pub record Seen (runs : List Extent) (b : ℕ) (e : Extent) : Type 0 where
  pub from : e.block ≤ b
  pub below : b < e.block + e.length
  pub fits : NumbersFit e.kind e.length
  pub tail : List Kind
  pub rest : drop b (kinds_of runs) ≡ run_of (kind_after e.kind (b - e.block)) (e.length - (b - e.block)) ++ tail
  pub none : begins (kind_after (kind_after e.kind (b - e.block)) (e.length - (b - e.block))) tail ≡ false

pub seen_from : (runs : List Extent) (i b : ℕ) (e : Extent) → ReadAt runs i e → Apart runs → LiesIn runs b i → Seen runs b e
seen_from runs i b e r a l =
    let from : e.block ≤ b = omega (arith, r.begins.at, l.from) in
    let below : b < e.block + e.length = omega (arith, r.begins.at, l.below, r.next) in
    record {
      from = from;
      below = below;
      fits = r.begins.fits;
      tail = kinds_of (drop (i + 1) runs);
      rest = rest_of runs i b e r from (omega arith);
      none = nothing_goes_on runs i (b - e.block) e r a (omega arith);
    }

pub seen : (runs : List Extent) (i b : ℕ) (d : Extent) → FollowOn 0 runs → Apart runs → LiesIn runs b i → Seen runs b (get_or runs i d)
seen runs i b d f a l = seen_from runs i b (get_or runs i d) (read_or runs i d f l.within) a l

-- a block of a run has a number that fits
pub number_fits : (k : Kind) (i n : ℕ) → i < n → NumbersFit k n → IfSome (device_number k) (λ d. d + i < 2 ^ 32)
number_fits Hole i n h f = tt
number_fits Delalloc i n h f = tt
number_fits (Unwritten d) i n h f = omega arith
number_fits (Mapped d) i n h f = omega arith

-- what a look-up gives
look : (runs : List Extent) (b max : ℕ) (e : Extent) → Seen runs b e → 1 ≤ max → IsLookup (kinds_of runs) b max (run_at b (min max (e.length - (b - e.block))) (kind_after e.kind (b - e.block)))
look runs b max e s m =
    let from = s.from in
    let below = s.below in
    let k : Kind = kind_after e.kind (b - e.block) in
    let rest : ℕ = e.length - (b - e.block) in
    record {
      block = refl;
      some = omega arith;
      cut = omega arith;
      run = run_here (kinds_of runs) b k rest (min max rest) s.tail s.rest (omega arith);
      longest = longest_here (kinds_of runs) b max k rest s.tail s.rest (omega arith) s.none;
      numbers = fits_part e.kind (b - e.block) (min max rest) e.length (omega arith) s.fits;
    }

pub looked : (runs : List Extent) (b max : ℕ) (e : Extent) (k : Kind) (n : ℕ) → Seen runs b e → 1 ≤ max → k ≡ kind_after e.kind (b - e.block) → n ≡ min max (e.length - (b - e.block)) → IsLookup (kinds_of runs) b max (run_at b n k)
looked runs b max e k n s m p q =
    let P : Kind → Type 0 = λ x. IsLookup (kinds_of runs) b max (run_at b n x) in
    let Q : ℕ → Type 0 = λ x. IsLookup (kinds_of runs) b max (run_at b x (kind_after e.kind (b - e.block))) in
    subst P (sym p) (subst Q (sym q) (look runs b max e s m))
