-- Histories that can have happened, entry by entry.
use Rattle.std.proofs.Common.{◌≡◌, ℕ, Bool, true, ◌&&◌, List, [], ◌∷◌, ◌++◌, refl, ◌∙◌, ap}
use Rattle.std.proofs.lemmas.Bool.{and_parts}
use Rattle.range_core.specs.BlockStates.{BlockState, state_after, states_replayed}
use Rattle.range_core.specs.Happened.{fits_by, lawful_from}
use Rattle.range_core.specs.declared.entry.Entry.{Entry}

pub both : (t u : Bool) → t ≡ true → u ≡ true → (t && u) ≡ true
both t u e f = ap (λ x. x && u) e ∙ f

-- a history with one entry more can have happened where the entry found the block as the history leaves it
pub lawful-more : (size b : ℕ) (s : BlockState) (history : List Entry) (e : Entry) → lawful_from size b s history ≡ true → fits_by size b e (states_replayed size b s history) ≡ true → lawful_from size b s (history ++ e ∷ []) ≡ true
lawful-more size b s [] e h f = both (fits_by size b e s) true f refl
lawful-more size b s (x ∷ history) e h f =
    let p = and_parts (fits_by size b x s) (lawful_from size b (state_after size b s x) history) h in
    both (fits_by size b x s) _ p.0 (lawful-more size b (state_after size b s x) history e p.1 f)
