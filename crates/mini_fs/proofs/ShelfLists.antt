-- The shelves of a pass: one is given away, those of another come, and one is used.
use Rattle.std.proofs.Common.{◌≡◌, ℕ, zero, suc, ◌+◌, ◌<◌, ◌≤◌, false, ◌==◌, List, [], ◌∷◌, ◌++◌, take, drop, get_or, set, length, Some, None, replicate, refl, sym, ap, ◌∙◌, subst, arith, append_assoc}
use Rattle.std.specs.Prelude.{slice_get}
use Rattle.std.proofs.lemmas.Option.{none-some, slice_get_read}
use mathlib.Core.Option.{some}
use lib.ListN.{get_elem?}
use Rattle.atomic_table.specs.Seated.{TableId}
use Rattle.fault_device.specs.declared.lane.Done.{Done}
use Rattle.bio_pages.specs.declared.bio.Bio.{Bio}
use Rattle.bio_pages.specs.Lists.{AreRun, Turned}
use Rattle.bio_pages.specs.Queue as passing
use Rattle.bio_pages.specs.Shelf.{SeatView, owner_of, seen_last, with_amount}
use Rattle.mini_fs.specs.BioSeats.{IsOwner, KeepsShelves, NoneRose, bio_seats_view}
use Rattle.mini_fs.specs.TicketView.{TicketView}

module _ {A : Type 0} where
  take-front : (xs ys : List A) → take (length xs) (xs ++ ys) ≡ xs
  take-front [] ys = refl
  take-front (x ∷ xs) ys = ap (λ l. x ∷ l) (take-front xs ys)

  take-long : (n : ℕ) (xs : List A) → length xs ≤ n → take n xs ≡ xs
  take-long zero [] few = refl
  take-long zero (x ∷ xs) few = absurd (omega arith)
  take-long (suc n) [] few = refl
  take-long (suc n) (x ∷ xs) few = ap (λ l. x ∷ l) (take-long n xs (omega arith))

  both-parts : (n : ℕ) (xs : List A) → take n xs ++ drop n xs ≡ xs
  both-parts zero xs = refl
  both-parts (suc n) [] = refl
  both-parts (suc n) (x ∷ xs) = ap (λ l. x ∷ l) (both-parts n xs)

  -- a list is full after some of another were put behind it
  pub full-part : (n i : ℕ) (xs ys zs : List A) → zs ≡ xs ++ take i ys → length zs ≡ n → zs ≡ take n (xs ++ ys)
  full-part n i xs ys zs is full =
      let whole : xs ++ ys ≡ zs ++ drop i ys = ap (λ l. xs ++ l) (sym (both-parts i ys)) ∙ sym (append_assoc xs (take i ys) (drop i ys)) ∙ ap (λ l. l ++ drop i ys) (sym is) in
      sym (ap (take n) whole ∙ ap (λ k. take k (zs ++ drop i ys)) (sym full) ∙ take-front zs (drop i ys))

  -- all of another were put behind a list, which has room for them
  pub whole-part : (n : ℕ) (xs ys zs : List A) → zs ≡ xs ++ take (length ys) ys → length zs ≤ n → zs ≡ take n (xs ++ ys)
  whole-part n xs ys zs is few =
      let whole : zs ≡ xs ++ ys = is ∙ ap (λ l. xs ++ l) (take-long (length ys) ys (omega arith)) in
      whole ∙ sym (take-long n (xs ++ ys) (subst (λ l. length l ≤ n) whole few))

-- what all transfers of a list tell, which was turned round once
pub turned-whole : {T : Type 0} (n : ℕ) (all new : List (Bio T)) (before after : List Done) → length all ≡ n → before ≡ [] → Turned (take n all) (drop n all) new before after → AreRun all new after
turned-whole n all new before after long none x =
    let nothing : drop n all ≡ [] = dropped n all (omega arith) in
    let news : new ≡ x.run = x.bios ∙ ap (λ l. l ++ x.run) nothing in
    let told : after ≡ x.told = x.dones ∙ ap (λ l. l ++ x.told) none in
    let front : take n all ≡ all = take-long n all (omega arith) in
    subst (λ l. AreRun l new after) front (subst (λ l. AreRun (take n all) l after) (sym news) (subst (AreRun (take n all) x.run) (sym told) x.are_run))
  where
    dropped : {A : Type 0} (n : ℕ) (xs : List A) → length xs ≤ n → drop n xs ≡ []
    dropped zero [] few = refl
    dropped zero (x ∷ xs) few = absurd (omega arith)
    dropped (suc n) [] few = refl
    dropped (suc n) (x ∷ xs) few = dropped n xs (omega arith)

none-rose : (ss : List (SeatView TicketView)) → NoneRose ss ss
none-rose [] = tt
none-rose (s ∷ ss) = ((refl, omega arith), none-rose ss)

-- the first shelf was used, and its owner gave away some of its amount
pub kept-used : (n sent : ℕ) (p q : passing.PassView TicketView) (ss : List (SeatView TicketView)) (s t : SeatView TicketView) → slice_get ss 0 ≡ Some s → t ≡ seen_last (with_amount s t.amount) → s.amount ≡ t.amount + sent → sent ≤ n
    → KeepsShelves n (bio_seats_view p ss) (bio_seats_view q (set ss 0 t))
kept-used n sent p q [] s t here is fell most = absurd (none-some s here)
kept-used n sent p q (u ∷ ss) s t here is fell most =
    let e : u ≡ s = cc in
    let a : u.amount ≡ s.amount = ap (λ (v : SeatView TicketView). v.amount) e in
    let b : t.shelf ≡ u.shelf = ap (λ (v : SeatView TicketView). v.shelf) is ∙ sym (ap (λ (v : SeatView TicketView). v.shelf) e) in
    record { same = ((b, omega arith), none-rose ss); sent = sent; most = most; fell = omega arith }

pub some-there : (n : ℕ) → (n == 0) ≡ false → 0 < n
some-there zero is = absurd (cc)
some-there (suc n) is = omega arith

pub first-there : {A : Type 0} (xs : List A) (x : A) → 0 < length xs → x ≡ get_or xs 0 x → slice_get xs 0 ≡ Some x
first-there xs x below read = slice_get_read xs (length xs) 0 x refl below read

-- the owner of a new shelf notes nothing
pub new-owner : (id shelf : TableId) (s : SeatView TicketView) → s ≡ owner_of id 32 → shelf ≡ id → IsOwner shelf s
new-owner id shelf s is same = record {
  shelf_is = ap (λ (v : SeatView TicketView). v.shelf) is ∙ sym same;
  seat = ap (λ (v : SeatView TicketView). v.seat) is;
  free = λ slot below. ap (λ (v : SeatView TicketView). get_elem? v.notes slot) is ∙ each 32 slot None below;
}
  where
    each : {A : Type 0} (n i : ℕ) (x : A) → i < n → get_elem? (replicate n x) i ≡ some x
    each zero i x below = absurd (omega arith)
    each (suc n) zero x below = refl
    each (suc n) (suc i) x below = each n i x (omega arith)
