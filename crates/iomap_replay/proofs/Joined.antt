-- Contents of blocks, joined, and the pieces that lie in one of them.
use Rattle.std.proofs.Common.{◌≡◌, ℕ, zero, suc, ◌+◌, ◌-◌, ◌*◌, ◌<◌, ◌≤◌, List, ◌++◌, length, take, drop, ap, ◌∙◌, arith, length-append, length-drop}
use Rattle.std.proofs.Math.Seq.{drop-append-add}
use Rattle.std.proofs.lemmas.List.{drop-append-le, drop-drop, drop-take, take-append-le, take-take}
use Rattle.io_model.specs.Contents.{Content}
use Rattle.io_model.specs.Lists.{bytes_between}
use Rattle.iomap_replay.specs.OneRead.{joined_from}

pub length-joined : (f : ℕ → Content) (size b k : ℕ) → ((i : ℕ) → length (f i) ≡ size) → length (joined_from f b k) ≡ k * size
length-joined f size b zero whole = omega arith
length-joined f size b (suc k) whole =
    let here = whole b in
    let rest = length-joined f size (b + 1) k whole in
    let more : suc k * size ≡ size + k * size = omega arith in
    length-append (f b) (joined_from f (b + 1) k) ∙ omega (arith, here, rest, more)

-- a piece that lies in one of the contents
pub piece-joined : (f : ℕ → Content) (size b k j x m : ℕ) → ((i : ℕ) → length (f i) ≡ size) → j < k → x + m ≤ size
    → take m (drop (j * size + x) (joined_from f b k)) ≡ take m (drop x (f (b + j)))
piece-joined f size b zero j x m whole below within = absurd (omega (arith, below))
piece-joined f size b (suc k) zero x m whole below within =
    let rest = joined_from f (b + 1) k in
    let place : 0 * size + x ≡ x = omega arith in
    let here : b ≡ b + 0 = omega arith in
    let fits : x ≤ length (f b) = omega (arith, whole b, within) in
    let left : m ≤ length (drop x (f b)) = omega (arith, length-drop x (f b), whole b, within) in
    ap (λ p. take m (drop p (f b ++ rest))) place ∙ ap (take m) (drop-append-le x (f b) rest fits)
    ∙ take-append-le m (drop x (f b)) rest left ∙ ap (λ c. take m (drop x (f c))) here
piece-joined f size b (suc k) (suc j) x m whole below within =
    let rest = joined_from f (b + 1) k in
    let place : suc j * size + x ≡ length (f b) + (j * size + x) = omega (arith, whole b) in
    let there : b + 1 + j ≡ b + suc j = omega arith in
    ap (λ p. take m (drop p (f b ++ rest))) place ∙ ap (take m) (drop-append-add (f b) rest (j * size + x))
    ∙ piece-joined f size (b + 1) k j x m whole (omega (arith, below)) within ∙ ap (λ c. take m (drop x (f c))) there

-- what lies between two places of a range, in the range's own bytes
pub between-taken : (bytes : List ℕ) (base off n from to : ℕ) → base ≤ off → off ≤ from → from ≤ to → to ≤ off + n
    → bytes_between (from - off) (to - off) (take n (drop (off - base) bytes)) ≡ take (to - from) (drop (from - base) bytes)
between-taken bytes base off n from to low begin order end =
    let ys = drop (off - base) bytes in
    let a = from - off in
    let rest = n - a in
    let all : n ≡ a + rest = omega (arith, begin, order, end) in
    let many : to - off - a ≡ to - from = omega (arith, begin, order) in
    let place : off - base + a ≡ from - base = omega (arith, low, begin) in
    ap (λ k. take k (drop a (take n ys))) many ∙ ap (λ k. take (to - from) (drop a (take k ys))) all
    ∙ ap (take (to - from)) (drop-take a rest ys) ∙ take-take (to - from) rest (drop a ys) (omega (arith, begin, order, end))
    ∙ ap (take (to - from)) (drop-drop a (off - base) bytes) ∙ ap (λ k. take (to - from) (drop k bytes)) place
