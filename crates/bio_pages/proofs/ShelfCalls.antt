-- What the steps of one call on a shelf come to.
use Rattle.std.proofs.Common.{◌≡◌, ℕ, ◌+◌, ◌-◌, ◌%◌, ◌^◌, true, List, [], ◌∷◌, set, Option, Some, None, refl, sym, ap, ◌∙◌, subst}
use mathlib.Core.Option.{some-injective}
use Rattle.atomic_table.specs.Seated.{TableId}
use Rattle.atomic_table.specs.Table.{State, Me, Allows, rest}
use Rattle.fault_device.specs.declared.lane.Done.{Done}
use Rattle.bio_pages.specs.declared.bio.Bio.{Bio}
use Rattle.bio_pages.specs.declared.errand.Errand.{Errand}
use Rattle.bio_pages.specs.declared.errand.Doing.TheVariants.{Idle, Waiting, Picking}
use Rattle.bio_pages.specs.declared.errand.Known.{Known}
use Rattle.bio_pages.specs.Running.{IsRun}
use Rattle.bio_pages.specs.Shelf.{errand_of, known_view, without_note}
use Rattle.bio_pages.specs.ShelfRule.{errand_to, Shelved}
use Rattle.bio_pages.specs.ShelfSteps.{filling, picking, emptied, IsAtRest, IsNotedAt, IsTaken, IsCounted, IsPicked, IsCleared, Picked}
use Rattle.bio_pages.proofs.ShelfSums.{some-same}
use Rattle.bio_pages.proofs.ShelfMoves.{fills, counts, picks, clears}

-- a step that tells something tells what follows from it
allows-more : {S V : Type 0} (holds : State S V → Type 0) (slots id : ℕ) (me : Me S V) (i : ℕ) (f : ℕ → ℕ) (P Q : ℕ → Me S V → Type 0) → Allows holds slots id me i f P → ((n : ℕ) (w : Me S V) → P n w → Q n w) → Allows holds slots id me i f Q
allows-more holds slots id me i f P Q allows follows s r len at below = let x = allows s r len at below in (x.0, x.1, x.2, x.3, follows _ _ x.4)

module _ {A : Type 0} where
  abbrev second : A → List (ℕ × A) → A
  second x [] = x
  second x (z ∷ zs) = z.1

  -- the one slot that a seat has is its first
  pub first-is : {l : List (ℕ × A)} {k : ℕ} {x : A} → l ≡ (k, x) ∷ [] → l ≡ (k, x) ∷ rest l
  first-is {k} {x} is = is ∙ sym (ap (λ z. (k, x) ∷ z) (ap rest is))

  -- and what is found in it is what it has
  pub found-is : {l : List (ℕ × A)} {k j : ℕ} {x y : A} → l ≡ (k, x) ∷ [] → l ≡ (j, y) ∷ rest l → y ≡ x
  found-is {x} is found = ap (second x) (sym found ∙ is)

module _ {T : Type 0} where
  waiting-same : {e f : Errand T} → Waiting e ≡ Waiting f → e ≡ f
  waiting-same is = cc

  picking-same : {e f : Errand T} → Picking e ≡ Picking f → e ≡ f
  picking-same is = cc

  pub takes-at : (slots id : ℕ) (e : Errand T) (me : Me (Option (Bio T × Done)) (Known T)) → me.1 ≡ [] → me.0.doing ≡ Waiting e → Allows Shelved slots id me 0 (λ n. n) (λ n w. IsTaken me w)
  takes-at slots id e me none_out is =
      let same : me ≡ (me.0, []) = ap (λ (c : List (ℕ × Option (Bio T × Done))). (me.0, c)) none_out in
      subst (λ (m : Me (Option (Bio T × Done)) (Known T)). Allows Shelved slots id m 0 (λ n. n) (λ n w. IsTaken m w)) (sym same)
      (allows-more Shelved slots id (me.0, []) 0 (λ n. n) (λ n w. w ≡ (filling e me.0, (e.slot, None) ∷ [])) (λ n w. IsTaken (me.0, []) w) (fills slots id e me.0 is)
      (λ n w told f is'. told ∙ ap (λ (x : Errand T). (filling x me.0, (x.slot, None) ∷ [])) (waiting-same (sym is ∙ is'))))

  pub counts-at : (slots id : ℕ) (e : Errand T) (v : Known T) (p : Bio T × Done) (me : Me (Option (Bio T × Done)) (Known T)) → me ≡ (filling e v, (e.slot, Some p) ∷ []) → IsRun e.bio p.0 p.1
      → Allows Shelved slots id me 0 (λ n. (n + (2 ^ 64 - 1)) % 2 ^ 64) (λ n w. IsCounted me n w)
  counts-at slots id e v p me is run =
      subst (λ (m : Me (Option (Bio T × Done)) (Known T)). Allows Shelved slots id m 0 (λ n. (n + (2 ^ 64 - 1)) % 2 ^ 64) (λ n w. IsCounted m n w)) (sym is) (counts slots id e (filling e v) p refl run)

  pub picks-at : (slots id slot : ℕ) (b : Bio T) (me : Me (Option (Bio T × Done)) (Known T)) → me.1 ≡ [] → id ≡ 0 → IsAtRest me.0.doing → me.0.last ≡ true → IsNotedAt me.0 slot b
      → Allows Shelved slots id me 0 (λ n. n) (λ n w. IsPicked slot me w)
  picks-at slots id slot b me none_out first rests last noted =
      let same : me ≡ (me.0, []) = ap (λ (c : List (ℕ × Option (Bio T × Done))). (me.0, c)) none_out in
      subst (λ (m : Me (Option (Bio T × Done)) (Known T)). Allows Shelved slots id m 0 (λ n. n) (λ n w. IsPicked slot m w)) (sym same)
      (allows-more Shelved slots id (me.0, []) 0 (λ n. n) (λ n w. Picked (errand_to slot b) me.0 w) (λ n w. IsPicked slot (me.0, []) w) (picks slots id slot b me.0 first rests last noted)
      (λ n w told c noted'. subst (λ (x : Bio T). Picked (errand_to slot x) me.0 w) (some-same (some-injective (Some b) (Some c) (sym noted ∙ noted'))) told))

  pub clears-at : (slots id : ℕ) (e : Errand T) (v : Known T) (me : Me (Option (Bio T × Done)) (Known T)) → me ≡ (picking e v, (e.slot, None) ∷ []) → Allows Shelved slots id me 0 (λ n. n) (λ n w. IsCleared me w)
  clears-at slots id e v me is =
      subst (λ (m : Me (Option (Bio T × Done)) (Known T)). Allows Shelved slots id m 0 (λ n. n) (λ n w. IsCleared m w)) (sym is)
      (allows-more Shelved slots id (picking e v, (e.slot, None) ∷ []) 0 (λ n. n) (λ n w. w ≡ (emptied e.slot (picking e v), [])) (λ n w. IsCleared (picking e v, (e.slot, None) ∷ []) w) (clears slots id e (picking e v) refl)
      (λ n w told f is'. told ∙ ap (λ (x : Errand T). (emptied x.slot (picking e v), [])) (picking-same is')))

  -- the owner's view after it emptied a slot
  pub emptied-view : (shelf : TableId) (id slot : ℕ) (e : Errand T) (v : Known T) → v.doing ≡ Idle → known_view shelf id (emptied slot (picking e v)) ≡ without_note (known_view shelf id v) slot
  emptied-view shelf id slot e v idle = λ i. record { shelf = shelf; seat = id; amount = v.amount; errand = errand_of (sym idle i); notes = set v.noted slot None; last = v.last; found = v.found }
