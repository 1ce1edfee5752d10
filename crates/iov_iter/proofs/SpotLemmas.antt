use Rattle.std.proofs.Common.{◌≡◌, ℕ, ◌+◌, ◌/◌, ◌%◌, ◌≤◌, ◌<◌, ◌⊎◌, inl, inr, min, List, ◌∷◌, ◌++◌, length, get_or, take, drop, sum, arith, refl, sym, ap, ◌∙◌, subst, add-one, length-append}
use Rattle.std.proofs.lemmas.Bool.{cases_lt}
use Rattle.std.proofs.lemmas.List.{drop_more, take-append-drop, take_all, get_or_append_left, get_or-append-add}
use Rattle.std.proofs.lemmas.List.Concat.{flat_map-append}
use Rattle.iov_iter.proofs.Sizes.{in_segment, length_page_sizes, some_at, some_length, some_page_sizes, some_sizes, start_append, start_front, start_next, total_page_sizes, total_sizes}
use Rattle.iov_iter.specs.IovView.{start_in}
use Rattle.iov_iter.specs.Making.{page_sizes, sizes_of}
use Rattle.iov_iter.specs.Spots.{AreSome, Stands, byte_of}
use Rattle.iov_iter.specs.declared.spot.Spot.{Spot}

abbrev pub spot : ℕ → ℕ → Spot
spot page offset = record { page = page; offset = offset }

pub stands_in : (xs : List ℕ) (page offset : ℕ) → page < length xs → offset < get_or xs page 0 → Stands xs (spot page offset)
stands_in xs page offset h g = record { inside = λ _. g; within = omega arith; behind = λ k. absurd (omega arith) }

pub stands_next : (xs : List ℕ) (page : ℕ) → AreSome xs → page < length xs → Stands xs (spot (page + 1) 0)
stands_next xs page a h = record { inside = λ k. some_at xs (page + 1) a k; within = omega arith; behind = λ _. refl }

pub byte_next : (xs : List ℕ) (page : ℕ) → page < length xs → start_in xs (page + 1) ≡ start_in xs page + get_or xs page 0
byte_next xs page h = rw add-one (start_next xs page h)

-- before the last byte a spot is in a page
pub in_page : (xs : List ℕ) (s : Spot) → Stands xs s → byte_of xs s < start_in xs (length xs) → s.page < length xs
in_page xs s t h = at (cases_lt s.page (length xs))
  where
    at : (s.page < length xs) ⊎ (length xs ≤ s.page) → s.page < length xs
    at (inl k) = k
    at (inr k) =
        let e : s.page ≡ length xs = omega (arith, t.within) in
        let f : start_in xs s.page ≡ start_in xs (length xs) = ap (start_in xs) e in
        absurd (omega (arith, f))

pub pages_within : (size : ℕ) (ls : List ℕ) → 0 < size → length (sizes_of size ls) ≤ sum ls
pages_within size ls h = omega (arith, some_length (sizes_of size ls) (some_sizes size ls h), total_sizes size ls)

pub segment_within : (size n : ℕ) → 0 < size → n / size + min 1 (n % size) ≤ n
segment_within size n h = omega (arith, some_length (page_sizes size n) (some_page_sizes size n h), total_page_sizes size n, length_page_sizes size n)

-- the pages before a segment, its own, and those after
pub split_sizes : (size : ℕ) (ls : List ℕ) (i : ℕ) → i < length ls → sizes_of size ls ≡ sizes_of size (take i ls) ++ (page_sizes size (get_or ls i 0) ++ sizes_of size (drop (i + 1) ls))
split_sizes size ls i h =
    ap (sizes_of size) (sym (take-append-drop i ls) ∙ ap (λ r. take i ls ++ r) (drop_more ls i 0 h))
    ∙ flat_map-append (page_sizes size) (take i ls) (get_or ls i 0 ∷ drop (i + 1) ls)

pub record Found (xs : List ℕ) (at page offset : ℕ) : Type 0 where
  pub stands : Stands xs (spot page offset)
  pub byte : byte_of xs (spot page offset) ≡ at

pub spot_found : (size : ℕ) (ls : List ℕ) (i left at page : ℕ) → 0 < size → i < length ls → left < get_or ls i 0 → page ≡ length (sizes_of size (take i ls)) → sum (take i ls) + left ≡ at → Found (sizes_of size ls) at (page + left / size) (left % size)
spot_found size ls i left at page h g k e f =
    let P : List ℕ → Type 0 = λ xs. Found xs at (page + left / size) (left % size) in
    subst P (sym (split_sizes size ls i g)) (found (sizes_of size (take i ls)) (page_sizes size (get_or ls i 0)) (sizes_of size (drop (i + 1) ls)) (sum (take i ls)) (left / size) (left % size) left at page e (total_sizes size (take i ls)) (in_segment size (get_or ls i 0) left h k).page (in_segment size (get_or ls i 0) left h k).inside (in_segment size (get_or ls i 0) left h k).byte f)
  where
    found : (a b c : List ℕ) (t q r left at page : ℕ) → page ≡ length a → start_in a (length a) ≡ t → q < length b → r < get_or b q 0 → start_in b q + r ≡ left → t + left ≡ at → Found (a ++ (b ++ c)) at (page + q) r
    found a b c t q r left at page e u h g k f =
        let there : get_or (a ++ (b ++ c)) (page + q) 0 ≡ get_or b q 0 =
        ap (λ m. get_or (a ++ (b ++ c)) (m + q) 0) e ∙ get_or-append-add a (b ++ c) q 0 ∙ get_or_append_left b c 0 q h in
        let start : start_in (a ++ (b ++ c)) (page + q) ≡ start_in a (length a) + start_in b q =
        ap (λ m. start_in (a ++ (b ++ c)) (m + q)) e ∙ start_append a (b ++ c) q ∙ ap (λ m. start_in a (length a) + m) (start_front b c q (omega arith)) in
        record {
          stands = stands_in (a ++ (b ++ c)) (page + q) r (omega (arith, length-append a (b ++ c), length-append b c)) (let P : ℕ → Type 0 = λ m. r < m in subst P (sym there) g);
          byte = omega (arith, start);
        }

-- behind all segments
pub spot_end : (size : ℕ) (ls : List ℕ) (i left at page : ℕ) → length ls ≤ i → page ≡ length (sizes_of size (take i ls)) → sum (take i ls) + left ≡ at → at ≤ sum ls → start_in (sizes_of size ls) page + 0 ≡ at
spot_end size ls i left at page h e f g =
    let all : take i ls ≡ ls = take_all i ls h in
    let long : page ≡ length (sizes_of size ls) = e ∙ ap (λ t. length (sizes_of size t)) all in
    let sums : sum (take i ls) ≡ sum ls = ap sum all in
    let start : start_in (sizes_of size ls) page ≡ sum ls = ap (start_in (sizes_of size ls)) long ∙ total_sizes size ls in
    omega (arith, start, sums)
