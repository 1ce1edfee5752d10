-- What is left of the ranges in many cells, one after another.
use Rattle.std.proofs.Common.{◌≡◌, ◌⊎◌, ℕ, zero, suc, List, [], ◌∷◌, ◌++◌, map, length, inl, inr, Some, refl, sym, ◌∙◌, ap, subst}
use Rattle.std.specs.Prelude.{slice_get}
use Rattle.std.proofs.lemmas.List.{map-append}
use Rattle.std.proofs.lemmas.Option.{none-some}
use Rattle.turn_cell.specs.Views.{CellView, SeatView}
use Rattle.range_core.specs.RangeView.{RangeView}
use Rattle.range_core.specs.declared.entry.Entry.{Entry}
use Rattle.mount_parts.specs.Ends.{IsEnd, RangeEndView}

module _ {C S E : Type 0} (R : C → S → E → Type 0) where
  -- what stands in one place of each of three lists is so related
  abbrev pub Each : List C → List S → List E → Type 0
  Each cells seats ends = (k : ℕ) (cell : C) (seat : S) (end : E) → slice_get cells k ≡ Some cell → slice_get seats k ≡ Some seat → slice_get ends k ≡ Some end → R cell seat end

abbrev pub EachEnds : List (CellView RangeView) → List (SeatView Entry) → List RangeEndView → Type 0
EachEnds cells seats ends = Each IsEnd cells seats ends

module _ {A : Type 0} where
  -- what stands in a list with one item more
  pub added-at : (xs : List A) (y z : A) (k : ℕ) → slice_get (xs ++ y ∷ []) k ≡ Some z → (slice_get xs k ≡ Some z) ⊎ ((k ≡ length xs) × (y ≡ z))
  added-at [] y z zero at = let e : y ≡ z = cc in inr (refl, e)
  added-at [] y z (suc k) at = absurd (none-some z at)
  added-at (x ∷ xs) y z zero at = inl at
  added-at (x ∷ xs) y z (suc k) at = elim (added-at xs y z k at) [ inl e ↦ inl e | inr e ↦ inr (ap suc e.0, e.1) ]

module _ {C S E : Type 0} (R : C → S → E → Type 0) where
  pub each-more : (cells : List C) (seats : List S) (ends : List E) (i : ℕ) (cell : C) (seat : S) (end : E) → Each R cells seats ends → length ends ≡ i
      → slice_get cells i ≡ Some cell → slice_get seats i ≡ Some seat → R cell seat end → Each R cells seats (ends ++ end ∷ [])
  each-more cells seats ends i cell seat end each count atc ats is k c s e hc hs he = elim (added-at ends end e k he) [
    | inl at ↦ each k c s e hc hs at
    | inr last ↦
        let n : k ≡ i = last.0 ∙ count in
        let oc : Some cell ≡ Some c = sym atc ∙ ap (slice_get cells) (sym n) ∙ hc in
        let os : Some seat ≡ Some s = sym ats ∙ ap (slice_get seats) (sym n) ∙ hs in
        let ec : cell ≡ c = cc in
        let es : seat ≡ s = cc in
        subst (λ x. R x s e) ec (subst (λ x. R cell x e) es (subst (R cell seat) last.1 is))
  ]

module _ {S : Type 0} (view : S → RangeEndView) where
  pub ends-more : (cells : List (CellView RangeView)) (seats : List (SeatView Entry)) (ends now : List S) (i : ℕ) (cell : CellView RangeView) (seat : SeatView Entry) (end : S) → EachEnds cells seats (map view ends) → length (map view ends) ≡ i
      → slice_get cells i ≡ Some cell → slice_get seats i ≡ Some seat → IsEnd cell seat (view end) → now ≡ ends ++ end ∷ [] → EachEnds cells seats (map view now)
  ends-more cells seats ends now i cell seat end each count atc ats is now_is =
      subst (EachEnds cells seats) (sym (ap (map view) now_is ∙ map-append view ends (end ∷ []))) (each-more IsEnd cells seats (map view ends) i cell seat (view end) each count atc ats is)
