-- What the owner of a shelf notes while a list of bios goes out and comes back.
use Rattle.std.proofs.Common.{◌≡◌, ◌≢◌, ℕ, zero, suc, ◌-◌, ◌<◌, List, [], ◌∷◌, Some, None, set, length, refl, sym, ap, ◌∙◌, arith}
use mathlib.Core.Option.{some, some-injective, some-ne-none}
use mathlib.Core.Logic.{dite}
use native.Mathlib.Decide.{ℕ_discrete}
use lib.ListN.{get_elem?}
use Rattle.atomic_table.proofs.Lists.{set_here, set_else}
use Rattle.bio_pages.specs.declared.bio.Bio.{Bio}
use Rattle.bio_pages.specs.Lists.{Emptied, Lent}
use Rattle.bio_pages.specs.Shelf.{SeatView, IsFree, IsNotedFor, with_errand, without_note}

module _ {A : Type 0} where
  pub at-below : (xs : List A) (i : ℕ) (a : A) → get_elem? xs i ≡ some a → i < length xs
  at-below [] i a at = absurd (some-ne-none a (sym at))
  at-below (x ∷ xs) zero a at = omega arith
  at-below (x ∷ xs) (suc i) a at = let h = at-below xs i a at in omega arith

  -- lists with the same items at all places are the same
  pub same-at : (xs ys : List A) → ((i : ℕ) → get_elem? xs i ≡ get_elem? ys i) → xs ≡ ys
  same-at [] [] f = refl
  same-at [] (y ∷ ys) f = absurd (some-ne-none y (sym (f 0)))
  same-at (x ∷ xs) [] f = absurd (some-ne-none x (f 0))
  same-at (x ∷ xs) (y ∷ ys) f = λ i. some-injective x y (f 0) i ∷ same-at xs ys (λ k. f (suc k)) i

module _ {T : Type 0} where
  pub lent-none : (all : List (Bio T)) (s : SeatView T) → Lent 0 all s s
  lent-none all s = record { shelf = refl; seat = refl; errand = refl; fell = omega arith; noted = λ place b lt at. absurd (omega arith); others = λ slot le. refl }

  pub lent-next : (k j : ℕ) (all : List (Bio T)) (s t u : SeatView T) (b : Bio T) → Lent k all s t → j ≡ suc k → get_elem? all k ≡ some b → IsFree t k → 0 < t.amount → u ≡ with_errand t k b → Lent j all s u
  lent-next k j all s t u b x next at free some_left is =
      let notes : u.notes ≡ set t.notes k (Some b) = ap (λ (v : SeatView T). v.notes) is in
      let less : u.amount ≡ t.amount - 1 = ap (λ (v : SeatView T). v.amount) is in
      let fell = x.fell in
      record {
        shelf = ap (λ (v : SeatView T). v.shelf) is ∙ x.shelf;
        seat = ap (λ (v : SeatView T). v.seat) is ∙ x.seat;
        errand = ap (λ (v : SeatView T). v.errand) is ∙ x.errand;
        fell = omega arith;
        noted = λ place c lt there. dite (ℕ_discrete place k)
            (λ (e : place ≡ k).
            let same : b ≡ c = some-injective b c (sym at ∙ ap (get_elem? all) (sym e) ∙ there) in
            ap (λ l. get_elem? l place) notes ∙ ap (get_elem? (set t.notes k (Some b))) e ∙ set_here t.notes k (Some b) (at-below t.notes k None free) ∙ ap (λ y. some (Some y)) same)
            (λ (ne : place ≢ k). ap (λ l. get_elem? l place) notes ∙ set_else t.notes k place (Some b) ne ∙ x.noted place c (omega arith) there);
        others = λ slot le. ap (λ l. get_elem? l slot) notes ∙ set_else t.notes k slot (Some b) (λ e. omega arith) ∙ x.others slot (omega arith);
      }

  pub emptied-none : (s : SeatView T) → Emptied 0 s s
  emptied-none s = record { seat = refl; free = λ slot lt. absurd (omega arith); others = λ slot le. refl }

  pub emptied-next : (k j : ℕ) (s t u : SeatView T) (b : Bio T) → Emptied k s t → j ≡ suc k → IsNotedFor t k b → u ≡ without_note t k → Emptied j s u
  emptied-next k j s t u b x next at is =
      let notes : u.notes ≡ set t.notes k None = ap (λ (v : SeatView T). v.notes) is in
      record {
        seat = is ∙ (λ i. record (x.seat i) { notes = set t.notes k None }) ∙ (λ i. record s { notes = sym notes i });
        free = λ slot lt. dite (ℕ_discrete slot k)
            (λ (e : slot ≡ k). ap (λ l. get_elem? l slot) notes ∙ ap (get_elem? (set t.notes k None)) e ∙ set_here t.notes k None (at-below t.notes k (Some b) at))
            (λ (ne : slot ≢ k). ap (λ l. get_elem? l slot) notes ∙ set_else t.notes k slot None ne ∙ x.free slot (omega arith));
        others = λ slot le. ap (λ l. get_elem? l slot) notes ∙ set_else t.notes k slot None (λ e. omega arith) ∙ x.others slot (omega arith);
      }
