-- A list of bios of which some went out, and the rest was run where it is.
use Rattle.std.proofs.Common.{◌≡◌, ℕ, zero, suc, ◌+◌, ◌<◌, ◌≤◌, true, List, [], ◌∷◌, ◌++◌, take, drop, length, refl, sym, ap, ◌∙◌, subst, ⊎_elim, arith}
use Rattle.std.proofs.lemmas.Bool.{cases_lt}
use mathlib.Core.Option.{some, some-ne-none}
use lib.ListN.{get_elem?}
use Rattle.fault_device.specs.declared.lane.Done.{Done}
use Rattle.bio_pages.specs.declared.bio.Bio.{Bio}
use Rattle.bio_pages.specs.Lists.{AreFree, AreOut, AreRun, CanSend, Emptied, Lent, Turned}
use Rattle.bio_pages.specs.Shelf.{SeatView, seen_last, with_amount}
use Rattle.bio_pages.proofs.Lending.{same-at}
use Rattle.bio_pages.proofs.Listed.{run-append}

module _ {A : Type 0} where
  pub length-of-take : (n : ℕ) (xs : List A) → n ≤ length xs → length (take n xs) ≡ n
  length-of-take zero xs le = refl
  length-of-take (suc n) [] le = absurd (omega arith)
  length-of-take (suc n) (x ∷ xs) le = ap suc (length-of-take n xs (omega arith))

  pub of-take : (n : ℕ) (xs : List A) (i : ℕ) (a : A) → get_elem? (take n xs) i ≡ some a → (i < n) × (get_elem? xs i ≡ some a)
  of-take zero xs i a at = absurd (some-ne-none a (sym at))
  of-take (suc n) [] i a at = absurd (some-ne-none a (sym at))
  of-take (suc n) (x ∷ xs) zero a at = (omega arith, at)
  of-take (suc n) (x ∷ xs) (suc i) a at = let h = of-take n xs i a at in let lt = h.0 in (omega arith, h.1)

  pub of-drop : (n : ℕ) (xs : List A) (i : ℕ) (a : A) → get_elem? (drop n xs) i ≡ some a → (k : ℕ) × (get_elem? xs k ≡ some a)
  of-drop zero xs i a at = (i, at)
  of-drop (suc n) [] i a at = absurd (some-ne-none a (sym at))
  of-drop (suc n) (x ∷ xs) i a at = let h = of-drop n xs i a at in (suc h.0, h.1)

  pub take-front : (xs ys : List A) (n : ℕ) → length xs ≡ n → take n (xs ++ ys) ≡ xs
  take-front [] ys zero e = refl
  take-front [] ys (suc n) e = absurd (omega arith)
  take-front (x ∷ xs) ys zero e = absurd (omega arith)
  take-front (x ∷ xs) ys (suc n) e = ap (λ l. x ∷ l) (take-front xs ys n (omega arith))

  pub drop-front : (xs ys : List A) (n : ℕ) → length xs ≡ n → drop n (xs ++ ys) ≡ ys
  drop-front [] ys zero e = refl
  drop-front [] ys (suc n) e = absurd (omega arith)
  drop-front (x ∷ xs) ys zero e = absurd (omega arith)
  drop-front (x ∷ xs) ys (suc n) e = drop-front xs ys n (omega arith)

  pub both-parts : (n : ℕ) (xs : List A) → take n xs ++ drop n xs ≡ xs
  both-parts zero xs = refl
  both-parts (suc n) [] = refl
  both-parts (suc n) (x ∷ xs) = ap (λ l. x ∷ l) (both-parts n xs)

  pub length-of-drop : (n m : ℕ) (xs : List A) → n + m ≡ length xs → length (drop n xs) ≡ m
  length-of-drop zero m xs e = omega arith
  length-of-drop (suc n) m [] e = absurd (omega arith)
  length-of-drop (suc n) m (x ∷ xs) e = length-of-drop n m xs (omega arith)

module _ {T : Type 0} where
  pub whole-run : (all mid new : List (Bio T)) (n m : ℕ) (cs ds es : List Done) → cs ≡ [] → Turned (take n all) (drop n all) mid cs ds → Turned (take m mid) (drop m mid) new ds es → length (drop n all) ≡ m → AreRun all new es
  whole-run all mid new n m cs ds es none_told x y e =
      let front : take m mid ≡ drop n all = ap (take m) x.bios ∙ take-front (drop n all) x.run m e in
      let back : drop m mid ≡ x.run = ap (drop m) x.bios ∙ drop-front (drop n all) x.run m e in
      let second : AreRun (drop n all) y.run y.told = subst (λ l. AreRun l y.run y.told) front y.are_run in
      let both : AreRun (take n all ++ drop n all) (x.run ++ y.run) (x.told ++ y.told) = run-append (take n all) x.run (drop n all) y.run x.told y.told x.are_run second in
      let news : new ≡ x.run ++ y.run = y.bios ∙ ap (λ l. l ++ y.run) back in
      let told : es ≡ x.told ++ y.told = y.dones ∙ ap (λ l. l ++ y.told) (x.dones ∙ ap (λ l. l ++ x.told) none_told) in
      subst (λ l. AreRun l new es) (both-parts n all) (subst (λ l. AreRun (take n all ++ drop n all) l es) (sym news) (subst (AreRun (take n all ++ drop n all) (x.run ++ y.run)) (sym told) both))

  -- the bios of the front are out
  pub went-out : (n : ℕ) (xs : List (Bio T)) (s t u : SeatView T) → n ≤ length xs → CanSend xs → Lent n xs s t → u ≡ seen_last t → AreOut n (take n xs) u
  went-out n xs s t u le can x is = record {
    count = length-of-take n xs le;
    can_send = λ place b at. can place b (of-take n xs place b at).1;
    noted = λ place b at. ap (λ (y : SeatView T). get_elem? y.notes place) is ∙ x.noted place b (of-take n xs place b at).0 (of-take n xs place b at).1;
  }

  -- the amount of the owner once all came back
  pub amount-same : (n : ℕ) (t u v : SeatView T) → u ≡ seen_last t → Emptied n u v → v.amount ≡ t.amount
  amount-same n t u v is e = ap (λ (s : SeatView T). s.amount) e.seat ∙ ap (λ (s : SeatView T). s.amount) is

  -- the owner notes again what it noted before
  pub back-again : (n most : ℕ) (all : List (Bio T)) (s t u v : SeatView T) → n ≤ most → AreFree most s → Lent n all s t → u ≡ seen_last t → Emptied n u v → v ≡ seen_last (with_amount s v.amount)
  back-again n most all s t u v le free x is e =
      let notes : v.notes ≡ s.notes = same-at v.notes s.notes (λ i. ⊎_elim
      (λ (lt : i < n). e.free i lt ∙ sym (free i (omega arith)))
      (λ (ge : n ≤ i). e.others i ge ∙ ap (λ (y : SeatView T). get_elem? y.notes i) is ∙ x.others i ge)
      (cases_lt i n)) in
      let shelf : v.shelf ≡ s.shelf = ap (λ (y : SeatView T). y.shelf) e.seat ∙ ap (λ (y : SeatView T). y.shelf) is ∙ x.shelf in
      let seat : v.seat ≡ s.seat = ap (λ (y : SeatView T). y.seat) e.seat ∙ ap (λ (y : SeatView T). y.seat) is ∙ x.seat in
      let errand : v.errand ≡ s.errand = ap (λ (y : SeatView T). y.errand) e.seat ∙ ap (λ (y : SeatView T). y.errand) is ∙ x.errand in
      let last : v.last ≡ true = ap (λ (y : SeatView T). y.last) e.seat ∙ ap (λ (y : SeatView T). y.last) is in
      let found : v.found ≡ v.amount = ap (λ (y : SeatView T). y.found) e.seat ∙ ap (λ (y : SeatView T). y.found) is ∙ sym (amount-same n t u v is e) in
      λ i. record { shelf = shelf i; seat = seat i; amount = v.amount; errand = errand i; notes = notes i; last = last i; found = found i }
