use Rattle.std.proofs.Common.{◌≡◌, ℕ, zero, suc, ◌+◌, ◌-◌, ◌≤◌, ◌<◌, min, Bool, true, false, not, if◌then◌else◌, List, [], ◌∷◌, ◌++◌, length, get_or, set, take, sum, arith, refl, sym, ap, ◌∙◌, subst}
use Rattle.std.proofs.Math.Nat.{mod-eq_of_lt, zero-div}
use Rattle.std.proofs.lemmas.Bool.{le-ltb, lt-ltb}
use Rattle.std.proofs.lemmas.List.{append-nil, length-take-le}
use Rattle.iov_iter.proofs.Making.{page_sizes_step}
use Rattle.iov_iter.proofs.PutLemmas.{made, total_pages}
use Rattle.iov_iter.proofs.SlotLemmas.{length_joined, length_sizes}
use Rattle.iov_iter.proofs.SpotLemmas.{in_page}
use Rattle.iov_iter.proofs.Sizes.{some_sizes}
use Rattle.iov_iter.specs.Home.{AllHome, is_home}
use Rattle.iov_iter.specs.IovView.{IovView, PagePlace, sizes, start_in}
use Rattle.iov_iter.specs.Kept.{IsIov, OutAreWhole}
use Rattle.iov_iter.specs.Making.{page_sizes, sizes_of}
use Rattle.iov_iter.specs.Moving.{first_places, kept_first}
use Rattle.iov_iter.specs.Spots.{AreSome, Stands, byte_of}
use Rattle.iov_iter.specs.declared.spot.Spot.{Spot}
use Rattle.iov_iter.specs.Slots.{SlotView, iov_view, joined, place_of, places}

abbrev pub sized : ℕ → PagePlace → PagePlace
sized n p = record p { size = n }

pub first_none : (ps : List PagePlace) → first_places 0 ps ≡ []
first_none [] = refl
first_none (p ∷ ps) = refl

pub first_step : (m : ℕ) (p : PagePlace) (ps : List PagePlace) → 0 < m → first_places m (p ∷ ps) ≡ sized (min m p.size) p ∷ first_places (m - p.size) ps
first_step zero p ps h = absurd (omega arith)
first_step (suc m) p ps h = refl

-- the first pages end in one that is cut
pub first_cut : (l : List SlotView) (i k m : ℕ) (d : SlotView) → i < length l → 0 < k → k ≤ length (get_or l i d).bytes → m ≡ start_in (sizes (places l)) i + k → first_places m (places l) ≡ places (take i l) ++ sized k (place_of (get_or l i d)) ∷ []
first_cut [] i k m d h g f e = absurd (omega arith)
first_cut (s ∷ ss) zero k m d h g f e =
    let cut : min m (length s.bytes) ≡ k = omega arith in
    let none : m - length s.bytes ≡ 0 = omega arith in
    first_step m (place_of s) (places ss) (omega arith) ∙ ap (λ n. sized n (place_of s) ∷ first_places (m - length s.bytes) (places ss)) cut
    ∙ ap (λ n. sized k (place_of s) ∷ first_places n (places ss)) none ∙ ap (λ r. sized k (place_of s) ∷ r) (first_none (places ss))
first_cut (s ∷ ss) (suc i) k m d h g f e =
    let whole : min m (length s.bytes) ≡ length s.bytes = omega arith in
    first_step m (place_of s) (places ss) (omega arith) ∙ ap (λ n. sized n (place_of s) ∷ first_places (m - length s.bytes) (places ss)) whole
    ∙ ap (λ r. place_of s ∷ r) (first_cut ss i k (m - length s.bytes) d (omega arith) g f (omega arith))

-- so the sizes of the first pages are those of a shorter segment
pub short_sizes : (f size m n : ℕ) (ps : List PagePlace) → 0 < size → n ≤ f → n ≤ m → sizes ps ≡ page_sizes size m → sizes (first_places n ps) ≡ page_sizes size n
short_sizes f size m zero ps h g k e = ap sizes (first_none ps) ∙ sym (rw (zero-div size, mod-eq_of_lt h) refl)
short_sizes zero size m (suc n) ps h g k e = absurd (omega arith)
short_sizes (suc f) size m (suc n) [] h g k e =
    absurd (omega (arith, ap length (e ∙ page_sizes_step size m (min m size) h (omega arith) refl)))
short_sizes (suc f) size m (suc n) (p ∷ ps) h g k e =
    let step : p.size ∷ sizes ps ≡ min m size ∷ page_sizes size (m - min m size) = e ∙ page_sizes_step size m (min m size) h (omega arith) refl in
    let head : p.size ≡ min m size = cc in
    let tail : sizes ps ≡ page_sizes size (m - min m size) = cc in
    let here : min (suc n) p.size ≡ min (suc n) size = omega arith in
    let left : suc n - p.size ≡ suc n - min (suc n) size = omega arith in
    ap (λ x. x ∷ sizes (first_places (suc n - p.size) ps)) here
    ∙ ap (λ xs. min (suc n) size ∷ xs) (short_sizes f size (m - min m size) (suc n - p.size) ps h (omega arith) (omega arith) tail ∙ ap (page_sizes size) left)
    ∙ sym (page_sizes_step size (suc n) (min (suc n) size) h (omega arith) refl)

-- no page is out
abbrev pub NoneOut : List PagePlace → Type 0
NoneOut [] = Unit {0}
NoneOut (p ∷ ps) = (p.out ≡ false) × NoneOut ps

not_true : (b : Bool) → not b ≡ true → b ≡ false
not_true true e = cc
not_true false e = refl

pub none_out : (ps : List PagePlace) → AreSome (sizes ps) → ((b : ℕ) → b < start_in (sizes ps) (length (sizes ps)) → is_home ps b ≡ true) → NoneOut ps
none_out [] a h = tt
none_out (p ∷ ps) a h = (
  not_true p.out (ap (λ t. if t then not p.out else is_home ps (0 - p.size)) (sym (lt-ltb 0 p.size a.0)) ∙ h 0 (omega (arith, a.0))),
  none_out ps a.1 (λ b g. let left : b + p.size - p.size ≡ b = omega arith in
      ap (is_home ps) (sym left) ∙ ap (λ t. if t then not p.out else is_home ps (b + p.size - p.size)) (sym (le-ltb (b + p.size) p.size (omega arith))) ∙ h (b + p.size) (omega arith)),
)

pub out_first : (size n : ℕ) (ps : List PagePlace) → NoneOut ps → OutAreWhole size (first_places n ps)
out_first size n [] a = tt
out_first size zero (p ∷ ps) a = tt
out_first size (suc n) (p ∷ ps) a = (λ e. absurd (cc (a.0, e)), out_first size (suc n - p.size) ps a.1)

pub one_length : (xs : List ℕ) → length xs ≡ 1 → xs ≡ sum xs ∷ []
one_length [] h = absurd (omega arith)
one_length (x ∷ []) h = let e : x ≡ 0 + x = omega arith in ap (λ n. n ∷ []) e
one_length (x ∷ y ∷ xs) h = absurd (omega arith)

pub set_one : (xs : List ℕ) (n : ℕ) → length xs ≡ 1 → set xs 0 n ≡ n ∷ []
set_one [] n h = absurd (omega arith)
set_one (x ∷ []) n h = refl
set_one (x ∷ y ∷ xs) n h = absurd (omega arith)

pub kept_cut : (v : IovView) (n : ℕ) → IsIov v → length v.lengths ≡ 1 → v.place ≡ 0 → AllHome v → 1 ≤ n → n ≤ length v.bytes → IsIov (kept_first n v)
kept_cut v n k one start home some within =
    let size : 0 < v.page_size = omega (arith, k.page_size.least) in
    let cut : sizes v.pages ≡ page_sizes v.page_size (sum v.lengths) = k.cut ∙ ap (sizes_of v.page_size) (one_length v.lengths one) ∙ append-nil (page_sizes v.page_size (sum v.lengths)) in
    let all : AreSome (sizes v.pages) = subst AreSome (sym k.cut) (some_sizes v.page_size v.lengths size) in
    record {
      page_size = k.page_size;
      cut = short_sizes n v.page_size (sum v.lengths) n v.pages size (omega arith) (omega (arith, k.joined)) cut ∙ sym (append-nil (page_sizes v.page_size n));
      joined = length-take-le n v.bytes within ∙ omega arith;
      short = omega (arith, k.short, k.joined);
      few = omega arith;
      out = out_first v.page_size n v.pages (none_out v.pages all (λ b g. home b (omega arith) (omega (arith, total_pages v k))));
      within = omega arith;
    }

-- the last byte that is kept, and its page
pub record KeepsAt (l : List SlotView) (n page offset : ℕ) : Type 0 where
  pub page_there : page < length l
  pub within : offset + 1 ≤ get_or (sizes (places l)) page 0
  pub ends : start_in (sizes (places l)) page + (offset + 1) ≡ n

pub keeps_at : (size : ℕ) (l : List SlotView) (ls ls' : List ℕ) (n : ℕ) (s : Spot) → sizes (places l) ≡ sizes_of size ls → ls' ≡ ls → Stands (sizes_of size ls') s → byte_of (sizes_of size ls') s ≡ n - 1 → 1 ≤ n → n ≤ length (joined l) → KeepsAt l n s.page s.offset
keeps_at size l ls ls' n s cut same t b some within =
    let e : sizes_of size ls' ≡ sizes (places l) = ap (sizes_of size) same ∙ sym cut in
    let S : List ℕ → Type 0 = λ xs. Stands xs s in
    let B : List ℕ → Type 0 = λ xs. byte_of xs s ≡ n - 1 in
    let stands : Stands (sizes (places l)) s = subst S e t in
    let byte : byte_of (sizes (places l)) s ≡ n - 1 = subst B e b in
    let there : s.page < length (sizes (places l)) = in_page (sizes (places l)) s stands (omega (arith, byte, length_joined l)) in
    record {
      page_there = omega (arith, there, length_sizes l);
      within = omega (arith, stands.inside there);
      ends = omega (arith, byte);
    }

pub view_kept : (size : ℕ) (l l' : List SlotView) (ls ls' : List ℕ) (place n m : ℕ) → m ≡ n → joined l' ≡ take m (joined l) → places l' ≡ first_places m (places l) → ls' ≡ n ∷ [] → iov_view size l' ls' place ≡ kept_first n (iov_view size l ls place)
view_kept size l l' ls ls' place n m e j p f =
    ap (λ xs. iov_view size l' xs place) f
    ∙ made size (joined l') (take n (joined l)) (places l') (first_places n (places l)) (n ∷ []) place place (j ∙ ap (λ k. take k (joined l)) e) (p ∙ ap (λ k. first_places k (places l)) e) refl
