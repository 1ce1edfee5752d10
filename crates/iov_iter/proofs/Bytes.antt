use Rattle.std.proofs.Common.{◌≡◌, ℕ, zero, suc, ◌+◌, ◌-◌, ◌≤◌, List, [], ◌∷◌, ◌++◌, zero-add, length, take, drop, arith, refl, sym, ap, ◌∙◌, add_assoc, append_assoc, length-append, length-drop, length-take, append-nil}
use Rattle.std.proofs.Math.Nat.{suc-add}
use Rattle.std.proofs.Math.Seq.{drop-append-add}
use Rattle.std.proofs.lemmas.List.{take-append-le, drop-append-le, take_at, drop_at, drop-drop, take_all, drop_all, length-take-le}
use borrow.Rule.Slice.PartMut.{put_mid}
use Rattle.iov_iter.specs.IovView.{put_at}

pub length-put_at : (at : ℕ) (xs b : List ℕ) → at + length xs ≤ length b → length (put_at at xs b) ≡ length b
length-put_at at xs b h = simp (length-append, length-drop, length-take) (omega arith)

-- bytes written within the first of two lists
pub put_at-left : (at : ℕ) (xs a b : List ℕ) → at + length xs ≤ length a → put_at at xs (a ++ b) ≡ put_at at xs a ++ b
put_at-left at xs a b h =
    let t : take at (a ++ b) ≡ take at a = take-append-le at a b (omega arith) in
    let d : drop (at + length xs) (a ++ b) ≡ drop (at + length xs) a ++ b = drop-append-le (at + length xs) a b h in
    rw (t, d) (sym (append_assoc (take at a ++ xs) (drop (at + length xs) a) b))

pub take-append-add : (a b : List ℕ) (n : ℕ) → take (length a + n) (a ++ b) ≡ a ++ take n b
take-append-add [] b n = ap (λ m. take m b) (zero-add n)
take-append-add (x ∷ a) b n = rw suc-add (ap (λ l. x ∷ l) (take-append-add a b n))

-- bytes written within the second of two lists
pub put_at-right : (n : ℕ) (xs a b : List ℕ) → put_at (length a + n) xs (a ++ b) ≡ a ++ put_at n xs b
put_at-right n xs a b =
    let t : take (length a + n) (a ++ b) ≡ a ++ take n b = take-append-add a b n in
    let d : drop (length a + n + length xs) (a ++ b) ≡ drop (n + length xs) b =
    ap (λ m. drop m (a ++ b)) (add_assoc (length a) n (length xs)) ∙ drop-append-add a b (n + length xs) in
    rw (t, d) (simp append_assoc)

-- two writes, one behind the other
pub put_at_more : (p : ℕ) (xs ys b : List ℕ) → p + length xs ≤ length b → put_at (p + length xs) ys (put_at p xs b) ≡ put_at p (xs ++ ys) b
put_at_more p xs ys b h =
    let front : length (take p b ++ xs) ≡ p + length xs = simp (length-append, length-take) (omega arith) in
    let t : take (p + length xs) (put_at p xs b) ≡ take p b ++ xs = take_at (take p b ++ xs) (drop (p + length xs) b) (p + length xs) front in
    let e : drop (p + length xs) (put_at p xs b) ≡ drop (p + length xs) b = drop_at (take p b ++ xs) (drop (p + length xs) b) (p + length xs) front in
    let d : drop (p + length xs + length ys) (put_at p xs b) ≡ drop (p + length xs + length ys) b =
    sym (drop-drop (length ys) (p + length xs) (put_at p xs b)) ∙ ap (drop (length ys)) e ∙ drop-drop (length ys) (p + length xs) b in
    let l : p + length (xs ++ ys) ≡ p + length xs + length ys = simp length-append (omega arith) in
    rw (t, d, l) (simp append_assoc)

pub take_add : (m n : ℕ) (xs : List ℕ) → take (m + n) xs ≡ take m xs ++ take n (drop m xs)
take_add zero n xs = ap (λ k. take k xs) (zero-add n)
take_add (suc m) n [] = rw suc-add (sym (take_none n))
  where
    take_none : (n : ℕ) → take {A = ℕ} n [] ≡ []
    take_none zero = refl
    take_none (suc n) = refl
take_add (suc m) n (x ∷ xs) = rw suc-add (ap (λ l. x ∷ l) (take_add m n xs))

-- one more piece of a write
pub write_more : (p done n k q : ℕ) (from b old new : List ℕ) → q ≡ p + done → done ≤ length from → k ≡ length from - done → p + done ≤ length b → old ≡ put_at p (take done from) b → new ≡ put_at q (take n (take k (drop done from))) old → new ≡ put_at p (take (done + n) from) b
write_more p done n k q from b old new e h f g u w =
    let long : length (take done from) ≡ done = length-take-le done from h in
    let all : take k (drop done from) ≡ drop done from = take_all k (drop done from) (simp length-drop (omega arith)) in
    let at : q ≡ p + length (take done from) = e ∙ ap (λ m. p + m) (sym long) in
    let piece : take done from ++ take n (take k (drop done from)) ≡ take (done + n) from =
    ap (λ t. take done from ++ take n t) all ∙ sym (take_add done n from) in
    w ∙ ap (put_at q (take n (take k (drop done from)))) u
    ∙ ap (λ m. put_at m (take n (take k (drop done from))) (put_at p (take done from) b)) at
    ∙ put_at_more p (take done from) (take n (take k (drop done from))) b (omega arith)
    ∙ ap (λ t. put_at p t b) piece

-- one more piece of a read
pub read_more : (p done n : ℕ) (b init into new : List ℕ) → into ≡ take done (drop p b) ++ drop done init → length into ≡ length init → done + n ≤ length init → p + length init ≤ length b → new ≡ take n (drop (p + done) b) ++ drop n (take (length into - done) (drop done into)) → put_mid done (length into - done) into new ≡ take (done + n) (drop p b) ++ drop (done + n) init
read_more p done n b init into new u long h g w =
    let front : length (take done (drop p b)) ≡ done = length-take-le done (drop p b) (simp length-drop (omega arith)) in
    let t : take done into ≡ take done (drop p b) = ap (take done) u ∙ take_at (take done (drop p b)) (drop done init) done front in
    let d : drop done into ≡ drop done init = ap (drop done) u ∙ drop_at (take done (drop p b)) (drop done init) done front in
    let gone : drop (length into - done) (drop done into) ≡ [] = drop_all (length into - done) (drop done into) (simp length-drop (omega arith)) in
    let all : take (length into - done) (drop done into) ≡ drop done init = take_all (length into - done) (drop done into) (simp length-drop (omega arith)) ∙ d in
    let rest : drop n (take (length into - done) (drop done into)) ≡ drop (done + n) init = ap (drop n) all ∙ drop-drop n done init in
    let piece : take n (drop (p + done) b) ≡ take n (drop done (drop p b)) = ap (take n) (sym (drop-drop done p b)) in
    let is : new ≡ take n (drop done (drop p b)) ++ drop (done + n) init = w ∙ (rw (piece, rest) refl) in
    joined_up (take done into) (take done (drop p b)) new (take n (drop done (drop p b))) (drop (done + n) init) (drop (length into - done) (drop done into)) (take (done + n) (drop p b)) t is gone (take_add done n (drop p b))
  where
    joined_up : (a a' new x r z whole : List ℕ) → a ≡ a' → new ≡ x ++ r → z ≡ [] → whole ≡ a' ++ x → a ++ (new ++ z) ≡ whole ++ r
    joined_up a a' new x r z whole e f g h = rw (e, f, g, h) (ap (λ l. a' ++ l) (append-nil (x ++ r)) ∙ sym (append_assoc a' x r))
