use Rattle.std.proofs.Common.{◌≡◌, ℕ, zero, suc, ◌+◌, ◌-◌, ◌≤◌, ◌<◌, ◌⊎◌, inl, inr, min, Bool, false, List, [], ◌∷◌, ◌++◌, length, get_or, take, drop, replicate, sum, arith, refl, sym, ap, ◌∙◌, add-one, add-zero, append_assoc, length-append}
use Rattle.std.proofs.Math.Nat.{mod-eq_of_lt, div-eq_of_lt, div-eq-sub-div, mod-eq-sub-mod, zero-div}
use Rattle.std.proofs.lemmas.Bool.{cases_lt}
use Rattle.std.proofs.lemmas.List.{append-nil, drop-drop, map_push, length_push, replicate-append-replicate, take-append-drop, take_more}
use Rattle.std.proofs.lemmas.List.Concat.{flat_map-append}
use Rattle.std.proofs.lemmas.List.Sums.{sum_by-append}
use Rattle.iov_iter.proofs.SpotLemmas.{split_sizes}
use Rattle.iov_iter.specs.IovView.{PagePlace, sizes}
use Rattle.iov_iter.specs.Kept.{OutAreWhole}
use Rattle.iov_iter.specs.Making.{numbered, page_sizes, rest_size, sizes_of}
use Rattle.iov_iter.specs.Slots.{SlotView, joined, place_of, places}

-- the first page of a segment, and the rest of it
pub page_sizes_step : (size left n : ℕ) → 0 < size → 0 < left → n ≡ min left size → page_sizes size left ≡ n ∷ page_sizes size (left - n)
page_sizes_step size left n h g e = at (cases_lt left size)
  where
    rest_some : (m : ℕ) → 0 < m → rest_size m ≡ m ∷ []
    rest_some zero k = absurd (omega arith)
    rest_some (suc m) k = refl

    none : (m : ℕ) → m ≡ 0 → page_sizes size m ≡ []
    none m k = rw k (rw (zero-div size, mod-eq_of_lt h) refl)

    at : (left < size) ⊎ (size ≤ left) → page_sizes size left ≡ n ∷ page_sizes size (left - n)
    at (inl k) =
        let same : n ≡ left = omega arith in
        let gone : left - n ≡ 0 = omega arith in
        rw (div-eq_of_lt k, mod-eq_of_lt k, none (left - n) gone, same) (rest_some left g)
    at (inr k) =
        let same : n ≡ size = omega arith in
        rw (same, div-eq-sub-div h k, mod-eq-sub-mod k, add-one) refl

pub numbered_append : (k : ℕ) (xs ys : List ℕ) → numbered k (xs ++ ys) ≡ numbered k xs ++ numbered (k + length xs) ys
numbered_append k [] ys = ap (λ m. numbered m ys) (sym (add-zero k))
numbered_append k (x ∷ xs) ys =
    let next : suc k + length xs ≡ k + suc (length xs) = omega arith in
    ap (λ ps. record { number = k; size = x; out = false } ∷ ps) (numbered_append (suc k) xs ys ∙ ap (λ m. numbered (suc k) xs ++ numbered m ys) next)

pub sizes_numbered : (k : ℕ) (xs : List ℕ) → sizes (numbered k xs) ≡ xs
sizes_numbered k [] = refl
sizes_numbered k (x ∷ xs) = ap (λ ys. x ∷ ys) (sizes_numbered (suc k) xs)

pub length_numbered : (k : ℕ) (xs : List ℕ) → length (numbered k xs) ≡ length xs
length_numbered k [] = refl
length_numbered k (x ∷ xs) = ap suc (length_numbered (suc k) xs)

pub numbered_in : (size k : ℕ) (xs : List ℕ) → OutAreWhole size (numbered k xs)
numbered_in size k [] = tt
numbered_in size k (x ∷ xs) = (λ e. absurd (cc), numbered_in size (suc k) xs)

pub length_places : (l : List SlotView) → length (places l) ≡ length l
length_places [] = refl
length_places (s ∷ ss) = ap suc (length_places ss)

pub joined_push : (l : List SlotView) (s : SlotView) → joined (l ++ s ∷ []) ≡ joined l ++ s.bytes
joined_push [] s = append-nil s.bytes
joined_push (x ∷ l) s = ap (λ b. x.bytes ++ b) (joined_push l s) ∙ sym (append_assoc x.bytes (joined l) s.bytes)

abbrev place : ℕ → ℕ → Bool → PagePlace
place number size out = record { number = number; size = size; out = out }

-- one more page of a segment of so many bytes
pub record Added (l l' : List SlotView) (first size left n : ℕ) : Type 0 where
  pub pages : places l' ++ numbered (first + length l') (page_sizes size (left - n)) ≡ places l ++ numbered (first + length l) (page_sizes size left)
  pub room : length l' + length (page_sizes size (left - n)) ≡ length l + length (page_sizes size left)

pub add_more : (l : List SlotView) (s : SlotView) (first size left n : ℕ) → s.number ≡ first + length l → length s.bytes ≡ n → s.out ≡ false → n ≡ min left size → 0 < left → 0 < size → Added l (l ++ s ∷ []) first size left n
add_more l s first size left n number long home e h g =
    let step : page_sizes size left ≡ n ∷ page_sizes size (left - n) = page_sizes_step size left n g h e in
    let next : first + length (l ++ s ∷ []) ≡ suc (first + length l) = omega (arith, length_push l s) in
    record {
      pages = rw (map_push place_of l s, next, step) (append_assoc (places l) (place_of s ∷ []) (numbered (suc (first + length l)) (page_sizes size (left - n)))
          ∙ ap (λ p. places l ++ (p ∷ numbered (suc (first + length l)) (page_sizes size (left - n)))) (made s.number (length s.bytes) n (first + length l) s.out number long home));
      room = omega (arith, length_push l s, ap length step);
    }
  where
    made : (a b n k : ℕ) (o : Bool) → a ≡ k → b ≡ n → o ≡ false → place a b o ≡ place k n false
    made a b n k o e f g = rw (e, f, g) refl

-- its bytes are the next ones of the segment, which are zeros or those of a list
pub zeros_more : (l : List SlotView) (s : SlotView) (left n : ℕ) → s.bytes ≡ replicate n 0 → n ≤ left → joined (l ++ s ∷ []) ++ replicate (left - n) 0 ≡ joined l ++ replicate left 0
zeros_more l s left n bytes h =
    let all : n + (left - n) ≡ left = omega arith in
    ap (λ b. b ++ replicate (left - n) 0) (joined_push l s) ∙ append_assoc (joined l) s.bytes (replicate (left - n) 0)
    ∙ ap (λ b. joined l ++ b) (ap (λ b. b ++ replicate (left - n) 0) bytes ∙ replicate-append-replicate n (left - n) 0 ∙ ap (λ m. replicate m 0) all)

pub bytes_more : (l : List SlotView) (s : SlotView) (done n : ℕ) (all : List ℕ) → s.bytes ≡ take n (drop done all) → joined (l ++ s ∷ []) ++ drop (done + n) all ≡ joined l ++ drop done all
bytes_more l s done n all bytes =
    ap (λ b. b ++ drop (done + n) all) (joined_push l s) ∙ append_assoc (joined l) s.bytes (drop (done + n) all)
    ∙ ap (λ b. joined l ++ b) (ap (λ b. b ++ drop (done + n) all) bytes ∙ ap (λ d. take n (drop done all) ++ d) (sym (drop-drop n done all)) ∙ take-append-drop n (drop done all))

-- one more segment
pub sizes_more : (size : ℕ) (ls : List ℕ) (i : ℕ) → i < length ls → sizes_of size (take (i + 1) ls) ≡ sizes_of size (take i ls) ++ page_sizes size (get_or ls i 0)
sizes_more size ls i h =
    ap (sizes_of size) (take_more ls i 0 h) ∙ flat_map-append (page_sizes size) (take i ls) (get_or ls i 0 ∷ [])
    ∙ ap (λ r. sizes_of size (take i ls) ++ r) (append-nil (page_sizes size (get_or ls i 0)))

pub sum_more : (ls : List ℕ) (i : ℕ) → i < length ls → sum (take (i + 1) ls) ≡ sum (take i ls) + get_or ls i 0
sum_more ls i h = omega (arith, ap sum (take_more ls i 0 h), sum_by-append (λ x. x) (take i ls) (get_or ls i 0 ∷ []))

pub segment_fits : (size : ℕ) (ls : List ℕ) (i : ℕ) → i < length ls → length (sizes_of size (take i ls)) + length (page_sizes size (get_or ls i 0)) ≤ length (sizes_of size ls)
segment_fits size ls i h =
    omega (arith, ap length (split_sizes size ls i h), length-append (sizes_of size (take i ls)) (page_sizes size (get_or ls i 0) ++ sizes_of size (drop (i + 1) ls)), length-append (page_sizes size (get_or ls i 0)) (sizes_of size (drop (i + 1) ls)))
