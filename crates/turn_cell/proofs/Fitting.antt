-- What stays of the rule where one seat's view changes.
use Rattle.std.proofs.Common.{◌≡◌, ◌≢◌, ℕ, ◌+◌, ◌<◌, ◌≤◌, List, [], ◌∷◌, ◌++◌, All, set, Some, None, sym, ap, ◌∙◌, subst, arith, ⊎_elim}
use mathlib.Core.Option.{some, some-injective}
use Rattle.std.proofs.lemmas.List.Elements.{All-weaker, All-push}
use mathlib.Core.Logic.{dite}
use native.Mathlib.Decide.{ℕ_discrete}
use lib.ListN.{get_elem?}
use Rattle.atomic_table.proofs.Lists.{at_set, at_map, set_else, set_again}
use Rattle.turn_cell.specs.declared.view.View.{View}
use Rattle.turn_cell.specs.Stakes.{total}
use Rattle.turn_cell.specs.Views.{WasHeld}
use Rattle.turn_cell.specs.Rule.{turning, stake_of, stakes_of, turn_of, share_of, Fits, IsKnown}
use Rattle.turn_cell.proofs.Stakes.{set-there}
use Rattle.turn_cell.proofs.Sums.{total-set, map-set}

-- nothing is held where nothing is
pub not-held : {T : Type 0} {x : T} → None ≡ Some x → ⊥
not-held e = cc

-- what was held stays so where more entries were made
pub waited-more : (below more : ℕ) (notes : List (ℕ × ℕ)) → below ≤ more → All (WasHeld below) notes → All (WasHeld more) notes
waited-more below more notes le all = All-weaker (WasHeld below) (WasHeld more) (λ (n : ℕ × ℕ) (h : WasHeld below n). (h.0, (let less = h.1 in omega arith))) notes all

pub waited-next : (below word turn : ℕ) (notes : List (ℕ × ℕ)) → word ≡ 1 → turn < below → All (WasHeld below) notes → All (WasHeld below) (notes ++ (word, turn) ∷ [])
waited-next below word turn notes one less all = All-push (WasHeld below) notes (word, turn) all (one, less)

module _ {T C E : Type 0} where
  -- the rule of one seat, where another seat's view is in its place
  pub fits-set : (h : List E) (value : T) (views : List (View T C E)) (id : ℕ) (w : View T C E) → Fits h value w
      → ((j : ℕ) (u : View T C E) → j ≢ id → get_elem? views j ≡ some u → Fits h value u)
      → (j : ℕ) (u : View T C E) → get_elem? (set views id w) j ≡ some u → Fits h value u
  fits-set h value views id w mine others j u at =
      ⊎_elim (λ (t : (j ≡ id) × (w ≡ u)). subst (Fits h value) t.1 mine) (λ (t : (j ≢ id) × (get_elem? views j ≡ some u)). others j u t.0 t.1) (at_set views id j w u at)

  -- some seat has still seen all, where this one has if it had
  pub known-set : (h : List E) (views : List (View T C E)) (id : ℕ) (v w : View T C E) → get_elem? views id ≡ some v → IsKnown h views
      → (0 < v.share → v.seen ≡ h → (0 < w.share) × (w.seen ≡ h)) → IsKnown h (set views id w)
  known-set h views id v w at k keeps =
      dite (ℕ_discrete k.number id)
      (λ e.
      let is : k.view ≡ v = some-injective k.view v (sym k.here ∙ ap (get_elem? views) e ∙ at) in
      let now = keeps (subst (λ (u : View T C E). 0 < u.share) is k.share) (ap (λ (u : View T C E). u.seen) (sym is) ∙ k.all) in
      record { number = id; view = w; here = set-there views id v w at; share = now.0; all = now.1 })
      (λ ne. record { number = k.number; view = k.view; here = set_else views id k.number w ne ∙ k.here; share = k.share; all = k.all })

  -- each refused word was found while a turn held the gate, where this seat's were and the numbers did not fall
  pub waited-set : (below more : ℕ) (views : List (View T C E)) (id : ℕ) (w : View T C E) → below ≤ more → All (WasHeld more) w.refused
      → ((j : ℕ) (u : View T C E) → get_elem? views j ≡ some u → All (WasHeld below) u.refused)
      → (j : ℕ) (u : View T C E) → get_elem? (set views id w) j ≡ some u → All (WasHeld more) u.refused
  waited-set below more views id w le mine others j u at =
      ⊎_elim (λ (t : (j ≡ id) × (w ≡ u)). subst (λ (x : View T C E). All (WasHeld more) x.refused) t.1 mine)
      (λ (t : (j ≢ id) × (get_elem? views j ≡ some u)). waited-more below more u.refused le (others j u t.1))
      (at_set views id j w u at)

  pub stakes-set : (views : List (View T C E)) (id : ℕ) (w : View T C E) → stakes_of (set views id w) ≡ set (stakes_of views) id (stake_of w)
  stakes-set views id w = map-set stake_of views id w

  -- the stakes are as they were where this seat's is
  pub stakes-same : (views : List (View T C E)) (id : ℕ) (v w : View T C E) → get_elem? views id ≡ some v → stake_of w ≡ stake_of v → stakes_of (set views id w) ≡ stakes_of views
  stakes-same views id v w at same =
      stakes-set views id w ∙ set_again (stakes_of views) id (stake_of w) (at_map stake_of views id v at ∙ ap some (sym same))

  -- sums of numbers of views, where this seat's changes
  pub turns-set : (views : List (View T C E)) (id : ℕ) (v w : View T C E) → get_elem? views id ≡ some v → total turn_of (set views id w) + turning v.held ≡ total turn_of views + turning w.held
  turns-set views id v w at = total-set turn_of views id v w at

  pub shares-set : (views : List (View T C E)) (id : ℕ) (v w : View T C E) → get_elem? views id ≡ some v → total share_of (set views id w) + v.share ≡ total share_of views + w.share
  shares-set views id v w at = total-set share_of views id v w at
