use Rattle.std.proofs.Common.{◌≡◌, ℕ, zero, suc, ◌+◌, ◌-◌, ◌<◌, ◌≤◌, List, [], ◌∷◌, ◌++◌, length, take, drop, get_or, refl, sym, ◌∙◌, ap, subst, arith, add-zero, zero-add, append_assoc, length-append}
use Rattle.std.proofs.lemmas.List.{take_at, drop_at, take_all, get_or_default, take-append-drop, drop_more, take_more}
use Rattle.io_model.specs.Kinds.{kind_after}
use Rattle.io_model.specs.declared.file.Extent.{Extent}
use Rattle.io_model.specs.declared.file.Kind.{Kind}
use Rattle.io_model.specs.declared.file.Kind.TheVariants.{Hole, Delalloc, Unwritten, Mapped}
use Rattle.extent_map.specs.Expansion.{run_of, kinds_of, NumbersFit}
use Rattle.extent_map.specs.Keeping.{BeginsAt, FollowOn, start_of}

-- the kind of the first block, and of a block counted in two steps
pub kind_after-zero : (k : Kind) → kind_after k 0 ≡ k
kind_after-zero Hole = refl
kind_after-zero Delalloc = refl
kind_after-zero (Unwritten d) = ap Unwritten (add-zero d)
kind_after-zero (Mapped d) = ap Mapped (add-zero d)

pub kind_after-after : (k : Kind) (i j : ℕ) → kind_after (kind_after k i) j ≡ kind_after k (i + j)
kind_after-after Hole i j = refl
kind_after-after Delalloc i j = refl
kind_after-after (Unwritten d) i j = ap Unwritten (omega arith)
kind_after-after (Mapped d) i j = ap Mapped (omega arith)

pub length-run_of : (k : Kind) (n : ℕ) → length (run_of k n) ≡ n
length-run_of k zero = refl
length-run_of k (suc n) = ap suc (length-run_of (kind_after k 1) n)

-- a run in two parts
pub run_of-add : (k : Kind) (m n : ℕ) → run_of k (m + n) ≡ run_of k m ++ run_of (kind_after k m) n
run_of-add k zero n = ap (run_of k) (zero-add n) ∙ ap (λ q. run_of q n) (sym (kind_after-zero k))
run_of-add k (suc m) n =
    let e : suc m + n ≡ suc (m + n) = omega arith in
    let f : 1 + m ≡ suc m = omega arith in
    ap (run_of k) e
    ∙ ap (λ l. k ∷ l) (run_of-add (kind_after k 1) m n ∙ ap (λ q. run_of (kind_after k 1) m ++ run_of q n) (kind_after-after k 1 m ∙ ap (kind_after k) f))

pub take-run_of : (k : Kind) (m n : ℕ) → m ≤ n → take m (run_of k n) ≡ run_of k m
take-run_of k m n h =
    let e : n ≡ m + (n - m) = omega arith in
    ap (λ x. take m (run_of k x)) e ∙ ap (take m) (run_of-add k m (n - m)) ∙ take_at (run_of k m) (run_of (kind_after k m) (n - m)) m (length-run_of k m)

pub drop-run_of : (k : Kind) (m n : ℕ) → m ≤ n → drop m (run_of k n) ≡ run_of (kind_after k m) (n - m)
drop-run_of k m n h =
    let e : n ≡ m + (n - m) = omega arith in
    ap (λ x. drop m (run_of k x)) e ∙ ap (drop m) (run_of-add k m (n - m)) ∙ drop_at (run_of k m) (run_of (kind_after k m) (n - m)) m (length-run_of k m)

-- numbers that fit go on fitting in a part of a run
pub fits_part : (k : Kind) (i m n : ℕ) → i + m ≤ n → NumbersFit k n → NumbersFit (kind_after k i) m
fits_part Hole i m n h f = tt
fits_part Delalloc i m n h f = tt
fits_part (Unwritten d) i m n h f = omega arith
fits_part (Mapped d) i m n h f = omega arith

pub fits_less : (k : Kind) (m n : ℕ) → m ≤ n → NumbersFit k n → NumbersFit k m
fits_less Hole m n h f = tt
fits_less Delalloc m n h f = tt
fits_less (Unwritten d) m n h f = omega arith
fits_less (Mapped d) m n h f = omega arith

pub kinds_of-append : (xs ys : List Extent) → kinds_of (xs ++ ys) ≡ kinds_of xs ++ kinds_of ys
kinds_of-append [] ys = refl
kinds_of-append (e ∷ xs) ys =
    ap (λ l. run_of e.kind e.length ++ l) (kinds_of-append xs ys) ∙ sym (append_assoc (run_of e.kind e.length) (kinds_of xs) (kinds_of ys))

-- an extent more
pub length-kinds_of : (e : Extent) (es : List Extent) → length (kinds_of (e ∷ es)) ≡ e.length + length (kinds_of es)
length-kinds_of e es = length-append (run_of e.kind e.length) (kinds_of es) ∙ ap (λ n. n + length (kinds_of es)) (length-run_of e.kind e.length)

-- extents that follow on one another, in two parts
pub follow_front : (a : ℕ) (xs ys : List Extent) → FollowOn a (xs ++ ys) → FollowOn a xs
follow_front a [] ys h = tt
follow_front a (e ∷ xs) ys h = (h.0, follow_front (a + e.length) xs ys h.1)

pub follow_back : (a : ℕ) (xs ys : List Extent) → FollowOn a (xs ++ ys) → FollowOn (a + length (kinds_of xs)) ys
follow_back a [] ys h = let P : ℕ → Type 0 = λ n. FollowOn n ys in subst P (sym (add-zero a)) h
follow_back a (e ∷ xs) ys h =
    let P : ℕ → Type 0 = λ n. FollowOn n ys in
    let n : a + e.length + length (kinds_of xs) ≡ a + length (kinds_of (e ∷ xs)) = omega (arith, length-kinds_of e xs) in
    subst P n (follow_back (a + e.length) xs ys h.1)

pub follow_both : (a : ℕ) (xs ys : List Extent) → FollowOn a xs → FollowOn (a + length (kinds_of xs)) ys → FollowOn a (xs ++ ys)
follow_both a [] ys f g = let P : ℕ → Type 0 = λ n. FollowOn n ys in subst P (add-zero a) g
follow_both a (e ∷ xs) ys f g =
    let P : ℕ → Type 0 = λ n. FollowOn n ys in
    let n : a + length (kinds_of (e ∷ xs)) ≡ a + e.length + length (kinds_of xs) = omega (arith, length-kinds_of e xs) in
    (f.0, follow_both (a + e.length) xs ys f.1 (subst P n g))

-- what is known of an extent that was read, and of those before and after it
pub record ReadAt (runs : List Extent) (i : ℕ) (e : Extent) : Type 0 where
  pub begins : BeginsAt (start_of runs i) e
  pub next : start_of runs (i + 1) ≡ start_of runs i + e.length
  pub split : runs ≡ take i runs ++ e ∷ drop (i + 1) runs
  pub front : FollowOn 0 (take i runs)
  pub back : FollowOn (start_of runs i + e.length) (drop (i + 1) runs)
  pub total : length (kinds_of runs) ≡ start_of runs i + e.length + length (kinds_of (drop (i + 1) runs))

split_at : (runs : List Extent) (i : ℕ) (e : Extent) → i < length runs → e ≡ get_or runs i e → runs ≡ take i runs ++ e ∷ drop (i + 1) runs
split_at runs i e h r =
    sym (take-append-drop i runs) ∙ ap (λ l. take i runs ++ l) (drop_more runs i e h) ∙ ap (λ x. take i runs ++ x ∷ drop (i + 1) runs) (sym r)

pub read_at : (runs : List Extent) (i : ℕ) (e : Extent) → FollowOn 0 runs → i < length runs → e ≡ get_or runs i e → ReadAt runs i e
read_at runs i e f h r =
    let s = split_at runs i e h r in
    let F : List Extent → Type 0 = FollowOn 0 in
    let g = subst F s f in
    let P : ℕ → Type 0 = λ n. FollowOn n (e ∷ drop (i + 1) runs) in
    let b : FollowOn (start_of runs i) (e ∷ drop (i + 1) runs) = subst P (zero-add (start_of runs i)) (follow_back 0 (take i runs) (e ∷ drop (i + 1) runs) g) in
    let n : start_of runs (i + 1) ≡ start_of runs i + length (kinds_of (e ∷ [])) =
    ap (λ l. length (kinds_of l)) (take_more runs i e h ∙ ap (λ x. take i runs ++ x ∷ []) (sym r))
    ∙ ap length (kinds_of-append (take i runs) (e ∷ [])) ∙ length-append (kinds_of (take i runs)) (kinds_of (e ∷ [])) in
    let t : length (kinds_of runs) ≡ start_of runs i + length (kinds_of (e ∷ drop (i + 1) runs)) =
    ap (λ l. length (kinds_of l)) s
    ∙ ap length (kinds_of-append (take i runs) (e ∷ drop (i + 1) runs)) ∙ length-append (kinds_of (take i runs)) (kinds_of (e ∷ drop (i + 1) runs)) in
    record {
      begins = b.0;
      next = omega (arith, n, length-kinds_of e []);
      split = s;
      front = follow_front 0 (take i runs) (e ∷ drop (i + 1) runs) g;
      back = b.1;
      total = omega (arith, t, length-kinds_of e (drop (i + 1) runs));
    }

pub start_all : (runs : List Extent) (i : ℕ) → length runs ≤ i → start_of runs i ≡ length (kinds_of runs)
start_all runs i h = ap (λ l. length (kinds_of l)) (take_all i runs h)

pub read_or : (runs : List Extent) (i : ℕ) (d : Extent) → FollowOn 0 runs → i < length runs → ReadAt runs i (get_or runs i d)
read_or runs i d f h = read_at runs i (get_or runs i d) f h (get_or_default runs i d (get_or runs i d) h)

pub block_at : (runs : List Extent) (i : ℕ) (d : Extent) → FollowOn 0 runs → i < length runs → (get_or runs i d).block ≡ start_of runs i
block_at runs i d f h = (read_or runs i d f h).begins.at

-- what a read past the end gives
abbrev pub no_extent : Extent
no_extent = record { block = 0; length = 0; kind = Hole }
