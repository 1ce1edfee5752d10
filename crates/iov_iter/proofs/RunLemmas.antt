use Rattle.std.proofs.Common.{◌≡◌, ℕ, zero, suc, ◌+◌, ◌*◌, ◌≤◌, ◌<◌, true, false, List, [], ◌∷◌, ◌++◌, length, get_or, set, take, drop, map, arith, refl, sym, ap, ◌∙◌, add_assoc, append_assoc, length-append, length-drop, length-take}
use Rattle.std.proofs.Math.Seq.{drop-append-add}
use Rattle.std.proofs.lemmas.List.{drop_more, drop-drop, drop-map, get_or_at, get_or-drop, length-map, map-append, map_more, set_at, drop_at, take-append-drop, take-map, take_at}
use Rattle.std.proofs.lemmas.List.Concat.{flat_map-append}
use Rattle.iob_base.specs.declared.sector.Page.{Page}
use Rattle.iov_iter.proofs.Sizes.{start_within}
use Rattle.iov_iter.specs.IovView.{PagePlace, sizes, start_in}
use Rattle.iov_iter.specs.Moving.{AreWhole, cut_pages, marked, marked_from, page}
use Rattle.iov_iter.specs.Runs.{AreIn, page_in, run_mapped, slot_out}
use Rattle.iov_iter.specs.Slots.{SlotView, joined, place_of, places}

length_front : {A : Type 0} (f : A → A) (i n : ℕ) (xs : List A) → i + n < length xs → length (take i xs ++ map f (take n (drop i xs))) ≡ i + n
length_front f i n xs h =
    length-append (take i xs) (map f (take n (drop i xs)))
    ∙ omega (arith, length-take i xs, length-map (take n (drop i xs)) f, length-take n (drop i xs), length-drop i xs)

-- a run of which n items were changed has the next one as it was
pub run_at : {A : Type 0} (f : A → A) (i n : ℕ) (xs : List A) (d : A) → i + n < length xs → get_or (run_mapped f i n xs) (i + n) d ≡ get_or xs (i + n) d
run_at f i n xs d h =
    ap (λ r. get_or (take i xs ++ map f (take n (drop i xs)) ++ r) (i + n) d) (drop_more xs (i + n) d h)
    ∙ get_or_at (take i xs ++ map f (take n (drop i xs))) (get_or xs (i + n) d) (drop (i + n + 1) xs) d (i + n) (length_front f i n xs h)

-- and one more of them is changed
pub run_more : {A : Type 0} (f : A → A) (i n : ℕ) (xs : List A) (y d : A) → i + n < length xs → y ≡ f (get_or xs (i + n) d) → set (run_mapped f i n xs) (i + n) y ≡ run_mapped f i (n + 1) xs
run_more f i n xs y d h e =
    let front = take i xs ++ map f (take n (drop i xs)) in
    let there : get_or (drop i xs) n d ≡ get_or xs (i + n) d = get_or-drop i xs n d in
    let more : map f (take (n + 1) (drop i xs)) ≡ map f (take n (drop i xs)) ++ y ∷ [] =
    map_more f (drop i xs) n d (omega (arith, length-drop i xs)) ∙ ap (λ x. map f (take n (drop i xs)) ++ x ∷ []) (ap f there ∙ sym e) in
    ap (λ r. set (take i xs ++ map f (take n (drop i xs)) ++ r) (i + n) y) (drop_more xs (i + n) d h)
    ∙ set_at (take i xs ++ map f (take n (drop i xs))) (get_or xs (i + n) d) (drop (i + n + 1) xs) y (i + n) (length_front f i n xs h)
    ∙ sym (append_assoc (take i xs ++ map f (take n (drop i xs))) (y ∷ []) (drop (i + n + 1) xs))
    ∙ ap (λ t. t ++ drop (i + n + 1) xs) (append_assoc (take i xs) (map f (take n (drop i xs))) (y ∷ []) ∙ ap (λ m. take i xs ++ m) (sym more))
    ∙ ap (λ k. take i xs ++ map f (take (n + 1) (drop i xs)) ++ drop k xs) (add_assoc i n 1)

pub in_at : (n k : ℕ) (ss : List SlotView) (s : SlotView) → AreIn n ss → k < n → s ≡ get_or ss k s → s.out ≡ false
in_at zero k ss s a h e = absurd (omega arith)
in_at (suc n) k [] s a h e = absurd a
in_at (suc n) zero (x ∷ ss) s a h e = ap (λ (t : SlotView). t.out) e ∙ a.0
in_at (suc n) (suc k) (x ∷ ss) s a h e = in_at n k ss s a.1 (omega arith) e

pub same_page : (g : Page) (s : SlotView) → g.number ≡ s.number → g.bytes ≡ s.bytes → g ≡ page_in s
same_page g s e f = made g.number g.bytes s.number s.bytes e f
  where
    made : (a : ℕ) (b : List ℕ) (c : ℕ) (d : List ℕ) → a ≡ c → b ≡ d → page a b ≡ page c d
    made a b c d e f = rw (e, f) refl

-- slots whose pages go out are seen as before, but for that
pub joined_out : (ss : List SlotView) → joined (map slot_out ss) ≡ joined ss
joined_out [] = refl
joined_out (s ∷ ss) = ap (λ b. s.bytes ++ b) (joined_out ss)

pub places_out : (ss : List SlotView) → places (map slot_out ss) ≡ map (marked true) (places ss)
places_out [] = refl
places_out (s ∷ ss) = ap (λ ps. marked true (place_of s) ∷ ps) (places_out ss)

joined_append : (a b : List SlotView) → joined (a ++ b) ≡ joined a ++ joined b
joined_append a b = flat_map-append (λ (s : SlotView). s.bytes) a b

pub joined_run : (i n : ℕ) (l : List SlotView) → joined (run_mapped slot_out i n l) ≡ joined l
joined_run i n l =
    joined_append (take i l ++ map slot_out (take n (drop i l))) (drop (i + n) l)
    ∙ ap (λ b. b ++ joined (drop (i + n) l)) (joined_append (take i l) (map slot_out (take n (drop i l))) ∙ ap (λ b. joined (take i l) ++ b) (joined_out (take n (drop i l))))
    ∙ append_assoc (joined (take i l)) (joined (take n (drop i l))) (joined (drop (i + n) l))
    ∙ ap (λ b. joined (take i l) ++ b) (sym (joined_append (take n (drop i l)) (drop (i + n) l)) ∙ ap joined (ap (λ r. take n (drop i l) ++ r) (sym (drop-drop n i l)) ∙ take-append-drop n (drop i l)))
    ∙ sym (joined_append (take i l) (drop i l)) ∙ ap joined (take-append-drop i l)

pub places_run : (i n : ℕ) (l : List SlotView) → places (run_mapped slot_out i n l) ≡ marked_from true i n (places l)
places_run i n l =
    map-append place_of (take i l ++ map slot_out (take n (drop i l))) (drop (i + n) l)
    ∙ (rw (map-append place_of (take i l) (map slot_out (take n (drop i l))), places_out (take n (drop i l)), sym (take-map place_of i l), sym (take-map place_of n (drop i l)), sym (drop-map place_of i l), sym (drop-map place_of (i + n) l)) refl)

-- the joined bytes from a page on are those of the slots from there on
pub joined_drop : (i : ℕ) (l : List SlotView) → drop (start_in (sizes (places l)) i) (joined l) ≡ joined (drop i l)
joined_drop zero l = refl
joined_drop (suc i) [] = refl
joined_drop (suc i) (s ∷ ss) = drop-append-add s.bytes (joined ss) (start_in (sizes (places ss)) i) ∙ joined_drop i ss

-- pages cut from the joined bytes are those of the slots
pub cut_slots : (n : ℕ) (ss : List SlotView) → cut_pages (take n (places ss)) (joined ss) ≡ map page_in (take n ss)
cut_slots zero ss = refl
cut_slots (suc n) [] = refl
cut_slots (suc n) (s ∷ ss) =
    let front : take (length s.bytes) (s.bytes ++ joined ss) ≡ s.bytes = take_at s.bytes (joined ss) (length s.bytes) refl in
    let back : drop (length s.bytes) (s.bytes ++ joined ss) ≡ joined ss = drop_at s.bytes (joined ss) (length s.bytes) refl in
    rw (front, back) (ap (λ gs. page_in s ∷ gs) (cut_slots n ss))

pub whole_in : (size n : ℕ) (ss : List SlotView) → AreWhole size n (places ss) → AreIn n ss
whole_in size zero ss a = tt
whole_in size (suc n) [] a = absurd a
whole_in size (suc n) (s ∷ ss) a = (a.0, whole_in size n ss a.2)

pub whole_there : (size n : ℕ) (ps : List PagePlace) → AreWhole size n ps → n ≤ length ps
whole_there size zero ps a = omega arith
whole_there size (suc n) [] a = absurd a
whole_there size (suc n) (p ∷ ps) a = omega (arith, whole_there size n ps a.2)

-- whole pages have so many bytes
pub whole_bytes : (size n i : ℕ) (ps : List PagePlace) → AreWhole size n (drop i ps) → start_in (sizes ps) i + n * size ≤ start_in (sizes ps) (length (sizes ps))
whole_bytes size zero i ps a = omega (arith, start_within (sizes ps) i)
whole_bytes size (suc n) zero [] a = absurd a
whole_bytes size (suc n) zero (p ∷ ps) a = omega (arith, whole_bytes size n zero ps a.2, a.1)
whole_bytes size (suc n) (suc i) [] a = absurd a
whole_bytes size (suc n) (suc i) (p ∷ ps) a = omega (arith, whole_bytes size (suc n) i ps a)
