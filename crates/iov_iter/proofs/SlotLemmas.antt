use Rattle.std.proofs.Common.{◌≡◌, ℕ, zero, suc, ◌+◌, ◌-◌, ◌≤◌, ◌<◌, Bool, true, false, not, List, [], ◌∷◌, ◌++◌, length, get_or, set, take, drop, arith, refl, sym, ap, ◌∙◌, subst, add_assoc, zero-add, length-append, length-drop}
use Rattle.std.proofs.Math.Seq.{drop-append-add}
use Rattle.std.proofs.lemmas.Bool.{lt-ltb, le-ltb}
use Rattle.std.proofs.lemmas.List.{take-append-le, drop-append-le}
use Rattle.iov_iter.proofs.Bytes.{length-put_at, put_at-left, put_at-right}
use Rattle.iov_iter.specs.Home.{is_home}
use Rattle.iov_iter.specs.IovView.{PagePlace, put_at, sizes, start_in}
use Rattle.iov_iter.specs.Slots.{SlotView, joined, place_of, places, slot_written}

pub length_sizes : (l : List SlotView) → length (sizes (places l)) ≡ length l
length_sizes [] = refl
length_sizes (s ∷ ss) = ap suc (length_sizes ss)

pub size_slot : (l : List SlotView) (i : ℕ) (d : SlotView) → i < length l → get_or (sizes (places l)) i 0 ≡ length (get_or l i d).bytes
size_slot [] i d h = absurd (omega arith)
size_slot (s ∷ ss) zero d h = refl
size_slot (s ∷ ss) (suc i) d h = size_slot ss i d (omega arith)

pub length_joined : (l : List SlotView) → length (joined l) ≡ start_in (sizes (places l)) (length (sizes (places l)))
length_joined [] = refl
length_joined (s ∷ ss) = length-append s.bytes (joined ss) ∙ ap (λ n. length s.bytes + n) (length_joined ss)

-- bytes of one slot are bytes of all
pub piece_read : (l : List SlotView) (i o k : ℕ) (d : SlotView) → i < length l → o + k ≤ length (get_or l i d).bytes → take k (drop (start_in (sizes (places l)) i + o) (joined l)) ≡ take k (drop o (get_or l i d).bytes)
piece_read [] i o k d h g = absurd (omega arith)
piece_read (s ∷ ss) zero o k d h g =
    let e : drop o (s.bytes ++ joined ss) ≡ drop o s.bytes ++ joined ss = drop-append-le o s.bytes (joined ss) (omega arith) in
    let f : take k (drop o s.bytes ++ joined ss) ≡ take k (drop o s.bytes) = take-append-le k (drop o s.bytes) (joined ss) (simp length-drop (omega arith)) in
    ap (λ m. take k (drop m (s.bytes ++ joined ss))) (zero-add o) ∙ ap (take k) e ∙ f
piece_read (s ∷ ss) (suc i) o k d h g =
    ap (λ m. take k (drop m (s.bytes ++ joined ss))) (add_assoc (length s.bytes) (start_in (sizes (places ss)) i) o)
    ∙ ap (take k) (drop-append-add s.bytes (joined ss) (start_in (sizes (places ss)) i + o)) ∙ piece_read ss i o k d (omega arith) g

-- bytes written into one slot are written into all
pub piece_write : (l : List SlotView) (i o : ℕ) (xs : List ℕ) (d : SlotView) → i < length l → o + length xs ≤ length (get_or l i d).bytes → joined (set l i (slot_written o xs (get_or l i d))) ≡ put_at (start_in (sizes (places l)) i + o) xs (joined l)
piece_write [] i o xs d h g = absurd (omega arith)
piece_write (s ∷ ss) zero o xs d h g = sym (ap (λ m. put_at m xs (s.bytes ++ joined ss)) (zero-add o) ∙ put_at-left o xs s.bytes (joined ss) g)
piece_write (s ∷ ss) (suc i) o xs d h g =
    ap (λ t. s.bytes ++ t) (piece_write ss i o xs d (omega arith) g)
    ∙ sym (put_at-right (start_in (sizes (places ss)) i + o) xs s.bytes (joined ss))
    ∙ ap (λ m. put_at m xs (s.bytes ++ joined ss)) (sym (add_assoc (length s.bytes) (start_in (sizes (places ss)) i) o))

-- a slot that is seen as the same place leaves all places
pub places_set : (l : List SlotView) (i : ℕ) (s d : SlotView) → place_of s ≡ place_of (get_or l i d) → places (set l i s) ≡ places l
places_set [] i s d e = refl
places_set (x ∷ xs) zero s d e = ap (λ p. p ∷ places xs) e
places_set (x ∷ xs) (suc i) s d e = ap (λ ps. place_of x ∷ ps) (places_set xs i s d e)

-- a byte is at home where its slot has its page
pub slot_home : (l : List SlotView) (i o : ℕ) (d : SlotView) → i < length l → o < length (get_or l i d).bytes → is_home (places l) (start_in (sizes (places l)) i + o) ≡ not (get_or l i d).out
slot_home [] i o d h g = absurd (omega arith)
slot_home (s ∷ ss) zero o d h g = rw (lt-ltb (0 + o) (length s.bytes) (omega arith)) refl
slot_home (s ∷ ss) (suc i) o d h g =
    let past : length s.bytes ≤ length s.bytes + start_in (sizes (places ss)) i + o = omega arith in
    let left : length s.bytes + start_in (sizes (places ss)) i + o - length s.bytes ≡ start_in (sizes (places ss)) i + o = omega arith in
    rw (le-ltb (length s.bytes + start_in (sizes (places ss)) i + o) (length s.bytes) past, left) (slot_home ss i o d (omega arith) g)

-- the same of the slot that was found at an index
pub size_read : (l : List SlotView) (i : ℕ) (s : SlotView) → i < length l → s ≡ get_or l i s → get_or (sizes (places l)) i 0 ≡ length s.bytes
size_read l i s h e = size_slot l i s h ∙ ap (λ (t : SlotView). length t.bytes) (sym e)

pub read_read : (l : List SlotView) (i o k : ℕ) (s : SlotView) → i < length l → s ≡ get_or l i s → o + k ≤ length s.bytes → take k (drop (start_in (sizes (places l)) i + o) (joined l)) ≡ take k (drop o s.bytes)
read_read l i o k s h e g =
    let P : SlotView → Type 0 = λ t. o + k ≤ length t.bytes in
    piece_read l i o k s h (subst P e g) ∙ ap (λ (t : SlotView). take k (drop o t.bytes)) (sym e)

not_true : (b : Bool) → not b ≡ true → b ≡ false
not_true true e = cc
not_true false e = refl

pub home_read : (l : List SlotView) (i o : ℕ) (s : SlotView) → i < length l → s ≡ get_or l i s → o < length s.bytes → is_home (places l) (start_in (sizes (places l)) i + o) ≡ true → s.out ≡ false
home_read l i o s h e g k =
    let P : SlotView → Type 0 = λ t. o < length t.bytes in
    ap (λ (t : SlotView). t.out) e ∙ not_true (get_or l i s).out (sym (slot_home l i o s h (subst P e g)) ∙ k)

pub write_read : (l : List SlotView) (i o : ℕ) (xs : List ℕ) (s : SlotView) → i < length l → s ≡ get_or l i s → o + length xs ≤ length s.bytes → joined (set l i (slot_written o xs s)) ≡ put_at (start_in (sizes (places l)) i + o) xs (joined l)
write_read l i o xs s h e g =
    let P : SlotView → Type 0 = λ t. o + length xs ≤ length t.bytes in
    ap (λ (t : SlotView). joined (set l i (slot_written o xs t))) e ∙ piece_write l i o xs s h (subst P e g)

pub place_written : (o : ℕ) (xs : List ℕ) (s : SlotView) → o + length xs ≤ length s.bytes → place_of (slot_written o xs s) ≡ place_of s
place_written o xs s h =
    let F : ℕ → PagePlace = λ n. record { number = s.number; size = n; out = s.out } in
    ap F (length-put_at o xs s.bytes h)

pub places_read : (l : List SlotView) (i : ℕ) (s t : SlotView) → s ≡ get_or l i s → place_of t ≡ place_of s → places (set l i t) ≡ places l
places_read l i s t e f = places_set l i t s (f ∙ ap place_of e)
