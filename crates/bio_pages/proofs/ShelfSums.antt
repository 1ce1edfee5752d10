-- What stays of the rule of a shelf where one seat's view, or one slot, changes.
use Rattle.std.proofs.Common.{◌≡◌, ◌≢◌, ℕ, zero, suc, ◌+◌, List, [], ◌∷◌, length, set, replicate, true, false, Option, Some, None, refl, sym, ap, ◌∙◌, subst, ⊎_elim, arith, eq-eqb, ne_eqb}
use Rattle.std.specs.Prelude.{slice_index, slice_set, if◌then◌else◌}
use mathlib.Core.Option.{some, none, some-injective, some-ne-none}
use mathlib.Core.Logic.{dite}
use native.Mathlib.Decide.{ℕ_discrete}
use lib.ListN.{get_elem?}
use Rattle.atomic_table.proofs.Lists.{at_set, set_else}
use Rattle.fault_device.specs.declared.lane.Done.{Done}
use Rattle.turn_cell.specs.Stakes.{total}
use Rattle.turn_cell.proofs.Sums.{total-set}
use Rattle.bio_pages.specs.declared.bio.Bio.{Bio}
use Rattle.bio_pages.specs.declared.errand.Errand.{Errand}
use Rattle.bio_pages.specs.declared.errand.Doing.{Doing}
use Rattle.bio_pages.specs.declared.errand.Doing.TheVariants.{Idle, Waiting, Filling, Picking}
use Rattle.bio_pages.specs.declared.errand.Known.{Known}
use Rattle.bio_pages.specs.Shelf.{errand_of}
use Rattle.bio_pages.specs.ShelfSteps.{IsAtRest}
use Rattle.bio_pages.specs.ShelfRule.{at_slot, waits, moves, waiting_at, moving_at, away, full, Follows, FitsSlot}

pub words-set : (words : List ℕ) (n m k : ℕ) → words ≡ n ∷ [] → m ≡ k → slice_set words 0 m ≡ k ∷ []
words-set words n m k is e = ap (λ ws. slice_set ws 0 m) is ∙ ap (λ x. x ∷ []) e

pub word-is : (words : List ℕ) (n : ℕ) → words ≡ n ∷ [] → slice_index words 0 ≡ n
word-is words n is = ap (λ ws. slice_index ws 0) is

pub never : false ≡ true → ⊥
never e = cc

none-some : {A : Type 0} {x : A} → None ≡ Some x → ⊥
none-some e = cc

pub some-same : {A : Type 0} {x y : A} → Some x ≡ Some y → x ≡ y
some-same e = cc

module _ {A : Type 0} where
  -- what holds of each item, where one is replaced
  pub all-set : (P : ℕ → A → Type 0) (xs : List A) (id : ℕ) (w : A) → P id w → ((j : ℕ) (u : A) → j ≢ id → get_elem? xs j ≡ some u → P j u)
      → (j : ℕ) (u : A) → get_elem? (set xs id w) j ≡ some u → P j u
  all-set P xs id w mine others j u at =
      ⊎_elim (λ (t : (j ≡ id) × (w ≡ u)). subst (λ (y : ℕ × A). P y.0 y.1) (λ i. (sym t.0 i, t.1 i)) mine) (λ (t : (j ≢ id) × (get_elem? xs j ≡ some u)). others j u t.0 t.1) (at_set xs id j w u at)

  -- of two lists as long as each other, both have an item at a place or neither
  pub there-too : {B : Type 0} (xs : List A) (ys : List B) (i : ℕ) (a : A) → length xs ≡ length ys → get_elem? xs i ≡ some a → (b : B) × (get_elem? ys i ≡ some b)
  there-too [] ys i a e at = absurd (some-ne-none a (sym at))
  there-too (x ∷ xs) [] i a e at = absurd (omega arith)
  there-too (x ∷ xs) (y ∷ ys) zero a e at = (y, refl)
  there-too (x ∷ xs) (y ∷ ys) (suc i) a e at = there-too xs ys i a (omega arith) at

  pub at-replicate : (n i : ℕ) (x y : A) → get_elem? (replicate n x) i ≡ some y → x ≡ y
  at-replicate zero i x y at = absurd (some-ne-none y (sym at))
  at-replicate (suc n) zero x y at = some-injective x y at
  at-replicate (suc n) (suc i) x y at = at-replicate n i x y at

-- what a slot has at home
abbrev pub Home : Type 0 → Type 0
Home T = mathlib.Core.Option.Option (Option (Bio T × Done))

module _ {T : Type 0} where
  pub at-here : (k : ℕ) (e : Errand T) → e.slot ≡ k → at_slot k e ≡ 1
  at-here k e is = ap (λ b. if b then 1 else 0) (eq-eqb e.slot k is)

  pub at-else : (k : ℕ) (e : Errand T) → e.slot ≢ k → at_slot k e ≡ 0
  at-else k e ne = ap (λ b. if b then 1 else 0) (ne_eqb e.slot k ne)

  apart-at : (k : ℕ) (e : Errand T) → at_slot k e ≡ 0 → e.slot ≢ k
  apart-at k e off is = let on = at-here k e is in absurd (omega arith)

  -- a slot that is at home and not full is empty
  pub home-empty : (h : Home T) → away h ≡ 0 → full h ≡ 0 → h ≡ some None
  home-empty none a f = absurd (omega arith)
  home-empty (some None) a f = refl
  home-empty (some (Some p)) a f = absurd (omega arith)

  pub home-full : (h : Home T) → full h ≡ 1 → (p : Bio T × Done) × (h ≡ some (Some p))
  home-full none f = absurd (omega arith)
  home-full (some None) f = absurd (omega arith)
  home-full (some (Some p)) f = (p, refl)

  -- a seat without an amount that is not the owner's neither waits for a slot nor has one
  pub quiet : (k number amount : ℕ) (notes : List (Option (Bio T))) (d : Doing T) → Follows notes number amount d → amount ≡ 0 → number ≢ 0 → (waits k d ≡ 0) × (moves k d ≡ 0)
  quiet k number amount notes Idle f zero_amount ne = (refl, refl)
  quiet k number amount notes (Waiting e) f zero_amount ne = let one = f.0 in absurd (omega arith)
  quiet k number amount notes (Filling e) f zero_amount ne = let one = f.0 in absurd (omega arith)
  quiet k number amount notes (Picking e) f zero_amount ne = absurd (ne f.0)

  -- the owner has nothing to do between two calls
  pub owner-idle : (number amount : ℕ) (notes : List (Option (Bio T))) (d : Doing T) → Follows notes number amount d → IsAtRest d → number ≡ 0 → d ≡ Idle
  owner-idle number amount notes Idle f rests first = refl
  owner-idle number amount notes (Waiting e) f rests first = absurd (f.1 first)
  owner-idle number amount notes (Filling e) f rests first = absurd rests
  owner-idle number amount notes (Picking e) f rests first = absurd rests

  -- a seat with an errand waits, between two calls
  pub rests-waiting : (d : Doing T) (e : Errand T) → IsAtRest d → errand_of d ≡ Some e → d ≡ Waiting e
  rests-waiting Idle e rests is = absurd (none-some is)
  rests-waiting (Waiting f) e rests is = ap Waiting (some-same is)
  rests-waiting (Filling f) e rests is = absurd rests
  rests-waiting (Picking f) e rests is = absurd rests

  -- a seat that has nothing to do with a slot may not care what is noted for it
  pub follows-else : (k number amount : ℕ) (notes : List (Option (Bio T))) (now : Option (Bio T)) (d : Doing T) → Follows notes number amount d → waits k d ≡ 0 → moves k d ≡ 0 → Follows (set notes k now) number amount d
  follows-else k number amount notes now Idle f a b = tt
  follows-else k number amount notes now (Waiting e) f a b = (f.0, f.1, set_else notes k e.slot now (apart-at k e a) ∙ f.2)
  follows-else k number amount notes now (Filling e) f a b = (f.0, f.1, set_else notes k e.slot now (apart-at k e b) ∙ f.2)
  follows-else k number amount notes now (Picking e) f a b = (f.0, set_else notes k e.slot now (apart-at k e b) ∙ f.1)

  pub waiting-set : (k : ℕ) (views : List (Known T)) (id : ℕ) (v w : Known T) → get_elem? views id ≡ some v → total (waiting_at k) (set views id w) + waits k v.doing ≡ total (waiting_at k) views + waits k w.doing
  waiting-set k views id v w at = total-set (waiting_at k) views id v w at

  pub moving-set : (k : ℕ) (views : List (Known T)) (id : ℕ) (v w : Known T) → get_elem? views id ≡ some v → total (moving_at k) (set views id w) + moves k v.doing ≡ total (moving_at k) views + moves k w.doing
  moving-set k views id v w at = total-set (moving_at k) views id v w at

  -- a slot is as it was where the seat that changes does the same with it
  pub slot-same : (views : List (Known T)) (id : ℕ) (v w : Known T) (k : ℕ) (n : Option (Bio T)) (home : Home T) → get_elem? views id ≡ some v → waits k w.doing ≡ waits k v.doing → moves k w.doing ≡ moves k v.doing
      → FitsSlot views k n home → FitsSlot (set views id w) k n home
  slot-same views id v w k n home at same same' f =
      let a = waiting-set k views id v w at in
      let b = moving-set k views id v w at in
      let c = f.counted in
      let d = f.out in
      record { counted = omega arith; out = omega arith; bio = f.bio }

  -- what holds of each slot, where one is shown by itself
  pub slots-at : (views : List (Known T)) (notes : List (Option (Bio T))) (homes : List (Home T)) (k : ℕ) (note : Option (Bio T)) (home : Home T) → get_elem? notes k ≡ some note → get_elem? homes k ≡ some home → FitsSlot views k note home
      → ((j : ℕ) (n : Option (Bio T)) (h : Home T) → j ≢ k → get_elem? notes j ≡ some n → get_elem? homes j ≡ some h → FitsSlot views j n h)
      → (j : ℕ) (n : Option (Bio T)) (h : Home T) → get_elem? notes j ≡ some n → get_elem? homes j ≡ some h → FitsSlot views j n h
  slots-at views notes homes k note home noted_at home_at fits others j n h a b =
      dite (ℕ_discrete j k)
      (λ e.
      let same : note ≡ n = some-injective note n (sym noted_at ∙ ap (get_elem? notes) (sym e) ∙ a) in
      let same' : home ≡ h = some-injective home h (sym home_at ∙ ap (get_elem? homes) (sym e) ∙ b) in
      subst (λ (p : ℕ × Option (Bio T) × Home T). FitsSlot views p.0 p.1 p.2) (λ i. (sym e i, same i, same' i)) fits)
      (λ ne. others j n h ne a b)
