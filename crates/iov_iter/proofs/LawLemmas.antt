use Rattle.std.proofs.Common.{◌≡◌, ℕ, zero, suc, ◌+◌, ◌-◌, ◌*◌, ◌≤◌, ◌<◌, ◌⊎◌, inl, inr, Bool, true, false, List, [], ◌∷◌, ◌++◌, length, take, drop, map, arith, refl, sym, ap, ◌∙◌, subst, append_assoc, length-append, length-drop}
use Rattle.std.proofs.lemmas.Bool.{cases_lt, le-ltb, lt-ltb}
use Rattle.std.proofs.lemmas.List.{drop_at, length-map, length-take-le, take-append-drop, take_at}
use Rattle.iov_iter.proofs.Bytes.{take_add}
use Rattle.iov_iter.proofs.PutLemmas.{made, marked_split, sizes_marked, total_pages}
use Rattle.iov_iter.proofs.RunLemmas.{whole_bytes, whole_there}
use Rattle.iov_iter.specs.IovView.{IovView, PagePlace, moved_to, put_at, sizes, start_in, start_of}
use Rattle.iov_iter.specs.Kept.{IsIov}
use Rattle.iov_iter.specs.Moving.{ArePagesOf, AreWhole, CanPut, CanTake, after_put, after_take, cut_pages, marked, marked_from, next_pages, page_bytes, page_of}

page_of_within : (ps : List PagePlace) (b : ℕ) → page_of ps b ≤ length ps
page_of_within [] b = omega arith
page_of_within (p ∷ ps) b = at (cases_lt b p.size) (page_of_within ps (b - p.size))
  where
    at : (b < p.size) ⊎ (p.size ≤ b) → page_of ps (b - p.size) ≤ length ps → page_of (p ∷ ps) b ≤ length (p ∷ ps)
    at (inl g) r = rw (lt-ltb b p.size g) (omega arith)
    at (inr g) r = rw (le-ltb b p.size g) (omega arith)

drop_marked : (out : Bool) (i n : ℕ) (ps : List PagePlace) → i ≤ length ps → drop i (marked_from out i n ps) ≡ map (marked out) (take n (drop i ps)) ++ drop (i + n) ps
drop_marked out i n ps h =
    ap (drop i) (append_assoc (take i ps) (map (marked out) (take n (drop i ps))) (drop (i + n) ps))
    ∙ drop_at (take i ps) (map (marked out) (take n (drop i ps)) ++ drop (i + n) ps) i (length-take-le i ps h)

taken_fit : (size n : ℕ) (ps rest : List PagePlace) (b : List ℕ) → AreWhole size n ps → n * size ≤ length b → ArePagesOf size (map (marked true) (take n ps) ++ rest) (cut_pages (take n ps) b)
taken_fit size zero ps rest b a h = tt
taken_fit size (suc n) [] rest b a h = absurd a
taken_fit size (suc n) (p ∷ ps) rest b a h = (
  record { number = refl; whole = length-take-le p.size b (omega (arith, a.1, h)) ∙ a.1; empty = refl },
  taken_fit size n ps rest (drop p.size b) a.2 (omega (arith, length-drop p.size b, a.1, h)),
)

pub taken_pages_fit : (v : IovView) (n : ℕ) → IsIov v → CanTake v n → CanPut (after_take v n) (page_of v.pages v.place) (next_pages v n)
taken_pages_fit v n k w =
    let A : List PagePlace → Type 0 = λ ps. ArePagesOf v.page_size ps (next_pages v n) in
    subst A (sym (drop_marked true (page_of v.pages v.place) n v.pages (page_of_within v.pages v.place)))
    (taken_fit v.page_size n (drop (page_of v.pages v.place) v.pages) (drop (page_of v.pages v.place + n) v.pages) (drop v.place v.bytes) w.ready
    (omega (arith, length-drop v.place v.bytes, whole_bytes v.page_size n (page_of v.pages v.place) v.pages w.ready, w.begins, total_pages v k)))

page_bytes_cut : (qs : List PagePlace) (b : List ℕ) → page_bytes (cut_pages qs b) ≡ take (start_in (sizes qs) (length (sizes qs))) b
page_bytes_cut [] b = refl
page_bytes_cut (q ∷ qs) b =
    ap (λ t. take q.size b ++ t) (page_bytes_cut qs (drop q.size b)) ∙ sym (take_add q.size (start_in (sizes qs) (length (sizes qs))) b)

length_cut : (qs : List PagePlace) (b : List ℕ) → length (cut_pages qs b) ≡ length qs
length_cut [] b = refl
length_cut (q ∷ qs) b = ap suc (length_cut qs (drop q.size b))

whole_total : (size n : ℕ) (ps : List PagePlace) → AreWhole size n ps → start_in (sizes (take n ps)) (length (sizes (take n ps))) ≡ n * size
whole_total size zero ps a = omega arith
whole_total size (suc n) [] a = absurd a
whole_total size (suc n) (p ∷ ps) a = omega (arith, whole_total size n ps a.2, a.1)

-- bytes put where they stand
put_same : (p k : ℕ) (b : List ℕ) → p + k ≤ length b → put_at p (take k (drop p b)) b ≡ b
put_same p k b h =
    let long : length (take k (drop p b)) ≡ k = length-take-le k (drop p b) (omega (arith, length-drop p b)) in
    ap (λ t. t ++ drop (p + length (take k (drop p b))) b) (sym (take_add p k b)) ∙ ap (λ m. take (p + k) b ++ drop (p + m) b) long ∙ take-append-drop (p + k) b

marks_back : (size n : ℕ) (ps : List PagePlace) → AreWhole size n ps → map (marked false) (map (marked true) (take n ps)) ≡ take n ps
marks_back size zero ps a = refl
marks_back size (suc n) [] a = absurd a
marks_back size (suc n) (p ∷ ps) a =
    let F : Bool → PagePlace = λ o. record { number = p.number; size = p.size; out = o } in
    ap (λ q. q ∷ map (marked false) (map (marked true) (take n ps))) (ap F (sym a.0)) ∙ ap (λ qs. p ∷ qs) (marks_back size n ps a.2)

marked_back : (size i n : ℕ) (ps : List PagePlace) → i ≤ length ps → AreWhole size n (drop i ps) → marked_from false i n (marked_from true i n ps) ≡ ps
marked_back size i n ps h a =
    let long : length (map (marked true) (take n (drop i ps))) ≡ n = length-map (take n (drop i ps)) (marked true) ∙ length-take-le n (drop i ps) (whole_there size n (drop i ps) a) in
    let front : take i (marked_from true i n ps) ≡ take i ps =
    ap (take i) (append_assoc (take i ps) (map (marked true) (take n (drop i ps))) (drop (i + n) ps)) ∙ take_at (take i ps) (map (marked true) (take n (drop i ps)) ++ drop (i + n) ps) i (length-take-le i ps h) in
    let mid : take n (drop i (marked_from true i n ps)) ≡ map (marked true) (take n (drop i ps)) =
    ap (take n) (drop_marked true i n ps h) ∙ take_at (map (marked true) (take n (drop i ps))) (drop (i + n) ps) n long in
    let back : drop (i + n) (marked_from true i n ps) ≡ drop (i + n) ps =
    drop_at (take i ps ++ map (marked true) (take n (drop i ps))) (drop (i + n) ps) (i + n) (length-append (take i ps) (map (marked true) (take n (drop i ps))) ∙ omega (arith, long, length-take-le i ps h)) in
    joined_up (take i (marked_from true i n ps)) (take i ps) (take n (drop i (marked_from true i n ps))) (map (marked true) (take n (drop i ps))) (drop (i + n) (marked_from true i n ps)) (drop (i + n) ps) (take n (drop i ps)) front mid back (marks_back size n (drop i ps) a)
    ∙ marked_split i n ps
  where
    joined_up : (a a' m m' r r' k : List PagePlace) → a ≡ a' → m ≡ m' → r ≡ r' → map (marked false) m' ≡ k → a ++ map (marked false) m ++ r ≡ a' ++ k ++ r'
    joined_up a a' m m' r r' k e f g u = rw (e, f, g, u) refl

pub taken_pages_back : (v : IovView) (n : ℕ) → IsIov v → CanTake v n → moved_to v.place (after_put (after_take v n) (page_of v.pages v.place) (next_pages v n)) ≡ v
taken_pages_back v n k w =
    let many : length (next_pages v n) ≡ n =
    length_cut (take n (drop (page_of v.pages v.place) v.pages)) (drop v.place v.bytes) ∙ length-take-le n (drop (page_of v.pages v.place) v.pages) (whole_there v.page_size n (drop (page_of v.pages v.place) v.pages) w.ready) in
    let start : start_of (marked_from true (page_of v.pages v.place) n v.pages) (page_of v.pages v.place) ≡ v.place =
    ap (λ xs. start_in xs (page_of v.pages v.place)) (sizes_marked true (page_of v.pages v.place) n v.pages) ∙ w.begins in
    let bytes : page_bytes (next_pages v n) ≡ take (n * v.page_size) (drop v.place v.bytes) =
    page_bytes_cut (take n (drop (page_of v.pages v.place) v.pages)) (drop v.place v.bytes) ∙ ap (λ m. take m (drop v.place v.bytes)) (whole_total v.page_size n (drop (page_of v.pages v.place) v.pages) w.ready) in
    let within : v.place + n * v.page_size ≤ length v.bytes = omega (arith, whole_bytes v.page_size n (page_of v.pages v.place) v.pages w.ready, w.begins, total_pages v k) in
    made v.page_size (put_at (start_of (marked_from true (page_of v.pages v.place) n v.pages) (page_of v.pages v.place)) (page_bytes (next_pages v n)) v.bytes) v.bytes (marked_from false (page_of v.pages v.place) (length (next_pages v n)) (marked_from true (page_of v.pages v.place) n v.pages)) v.pages v.lengths v.place v.place
    (ap (λ p. put_at p (page_bytes (next_pages v n)) v.bytes) start ∙ ap (λ b. put_at v.place b v.bytes) bytes ∙ put_same v.place (n * v.page_size) v.bytes within)
    (ap (λ m. marked_from false (page_of v.pages v.place) m (marked_from true (page_of v.pages v.place) n v.pages)) many ∙ marked_back v.page_size (page_of v.pages v.place) n v.pages (page_of_within v.pages v.place) w.ready)
    refl
