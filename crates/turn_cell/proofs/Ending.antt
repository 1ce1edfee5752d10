-- How a cell starts, and what is left at its end.
use Rattle.std.proofs.Common.{◌≡◌, ◌≢◌, ℕ, zero, suc, ◌+◌, List, [], ◌∷◌, All, length, Option, Some, None, refl, sym, ap, ◌∙◌, subst, arith}
use mathlib.Core.Option.{some, some-injective, some-ne-none}
use mathlib.Core.Logic.{dite}
use Rattle.std.proofs.lemmas.List.Elements.{All-nil}
use native.Mathlib.Decide.{ℕ_discrete}
use lib.ListN.{get_elem?}
use Rattle.atomic_table.specs.Table.{opening as opened, Final, Seen}
use Rattle.atomic_table.specs.declared.shared.Seat.{Seat}
use Rattle.turn_cell.specs.declared.view.View.{View}
use Rattle.turn_cell.specs.Stakes.{Stake, total}
use Rattle.turn_cell.specs.Laws.{Stands}
use Rattle.turn_cell.specs.Rule.{turning, at_home, stake_of, stakes_of, turn_of, share_of, whole_share, Fits, Ruled}
use Rattle.turn_cell.specs.Seats.{place_view}
use Rattle.turn_cell.specs.Steps.{IsIdle, first_view}
use Rattle.turn_cell.specs.Views.{Closed, WasHeld}
use Rattle.turn_cell.proofs.Sums.{total-sole, total-alone}
use Rattle.turn_cell.proofs.Beginnings.{begins-none}
use Rattle.turn_cell.proofs.Fitting.{not-held, waited-more}
use Rattle.turn_cell.proofs.Stakes.{map-there, tally-alone}
use Rattle.turn_cell.proofs.Gate.{stands-here}
use Rattle.turn_cell.proofs.Turning.{some-same}

module _ {T C E : Type 0} where
  first-fits : (value : T) (claims : C) → Fits {E = E} [] value (first_view claims)
  first-fits value claims = record { seen = begins-none []; told = begins-none []; spent = λ z. absurd (omega arith); held = λ x e. absurd (not-held e) }

  all-fit : (value : T) (claims : C) (number : ℕ) (v : View T C E) → get_elem? (first_view claims ∷ []) number ≡ some v → Fits [] value v
  all-fit value claims zero v at = subst (Fits [] value) (some-injective (first_view claims) v at) (first-fits value claims)
  all-fit value claims (suc number) v at = absurd (some-ne-none v (sym at))

  none-waited : (claims : C) (number : ℕ) (v : View T C E) → get_elem? (first_view claims ∷ []) number ≡ some v → All (WasHeld (0 + 0)) v.refused
  none-waited claims zero v at = subst (λ (x : View T C E). All (WasHeld (0 + 0)) x.refused) (some-injective (first_view claims) v at) (All-nil (WasHeld (0 + 0)))
  none-waited claims (suc number) v at = absurd (some-ne-none v (sym at))

  -- the table of a new cell meets the rule
  pub starts : (truth : T → T → List E → List (Stake C E) → Type 0) (value : T) (claims : C) → truth value value [] ((Some claims, []) ∷ []) → Ruled truth value (opened (0 ∷ []) (Some value ∷ []) (first_view claims))
  starts truth value claims holds = record {
    history = [];
    value = value;
    gate = refl;
    one = omega arith;
    home = refl;
    shares = refl;
    fits = all-fit value claims;
    known = record { number = 0; view = first_view claims; here = refl; share = omega arith; all = refl };
    once = λ f. refl;
    waited = λ number v at. none-waited claims number v at;
    holds = holds;
  }

-- What is left where one seat has the whole share
pub record IsSole {T C E : Type 0} (truth : T → T → List E → List (Stake C E) → Type 0) (opening : T) (p : Seat (Option T) (View T C E)) (claims : C) (slots : List (Option T)) : Type 0 where
  pub value : T
  pub slot : get_elem? slots 0 ≡ some (Some value)
  pub closed : Closed truth opening value (place_view p) claims

module _ {T C E : Type 0} (truth : T → T → List E → List (Stake C E) → Type 0) (opening : T) where
  pub ends : (p : Seat (Option T) (View T C E)) (claims : C) (words : List ℕ) (slots : List (Option T)) → IsIdle p.me claims → p.me.0.share ≡ whole_share
      → Final (Seen (Ruled truth opening) p.id p.me.0) words slots → IsSole truth opening p claims slots
  ends p claims words slots idle whole (s, (r, at), _, _, at_home_is) =
      let id : ℕ = p.id in
      let v : View T C E = p.me.0 in
      let sole : total share_of s.views ≡ v.share = r.shares ∙ sym whole in
      let others : (j : ℕ) (u : View T C E) → j ≢ id → get_elem? s.views j ≡ some u → (u.claims ≡ None) × (u.made ≡ []) × (u.held ≡ None) =
      λ j u apart there. (r.fits j u there).spent (total-sole share_of s.views id j v u at sole apart there) in
      let off : total turn_of s.views ≡ 0 = total-alone turn_of s.views id v at (λ j u apart there. ap turning (others j u apart there).2) ∙ ap turning idle.held in
      let home : s.homes ≡ some (Some r.value) ∷ [] = r.home ∙ ap (λ n. at_home n r.value ∷ []) off in
      let stakes : List (Stake C E) = stakes_of s.views in
      let alone : (j : ℕ) (t : Stake C E) → j ≢ id → get_elem? stakes j ≡ some t → t ≡ (None, []) =
      λ j t apart there. let u = map-there stake_of s.views j t there in let o = others j u.0 apart u.1 in sym u.2 ∙ (λ i. (o.0 i, o.1 i)) in
      let known : v.seen ≡ r.history =
      dite (ℕ_discrete r.known.number id)
      (λ e. ap (λ (u : View T C E). u.seen) (some-injective v r.known.view (sym at ∙ ap (get_elem? s.views) (sym e) ∙ r.known.here)) ∙ r.known.all)
      (λ ne. absurd (let z : r.known.view.share ≡ 0 = total-sole share_of s.views id r.known.number v r.known.view at sole ne r.known.here in let q = r.known.share in omega arith)) in
      let stands : Stands truth opening r.value r.history stakes id claims v.made = stands-here truth opening s r id v claims at idle.claims_are in
      record {
        value = r.value;
        slot = at_home_is 0 (Some r.value) (ap (λ hs. get_elem? hs 0) home);
        closed = record {
          number = id;
          stakes = stakes;
          stands = subst (λ h. Stands truth opening r.value h stakes id claims v.made) (sym known) stands;
          alone = alone;
          once = λ f.
              ap (total f) known ∙ r.once f
              ∙ tally-alone f stakes id (Some claims) v.made stands.here alone;
          refused = let long : length v.seen ≡ length r.history = ap length known in
              waited-more (length r.history + total turn_of s.views) (length v.seen) v.refused (omega arith) (r.waited id v at);
        };
      }

  -- what is taken from the slot is the value of the whole cell
  pub taken : {p : Seat (Option T) (View T C E)} {claims : C} {slots : List (Option T)} {x : Option T} (sole : IsSole truth opening p claims slots) → get_elem? slots 0 ≡ some x → x ≡ Some sole.value
  taken sole at = some-injective _ _ (sym at ∙ sole.slot)

  pub closed-with : {p : Seat (Option T) (View T C E)} {claims : C} {slots : List (Option T)} {x : Option T} (q : Seat (Option T) (View T C E)) (named : C) (y : T) → IsSole truth opening p claims slots
      → get_elem? slots 0 ≡ some x → x ≡ Some y → p ≡ q → claims ≡ named → Closed truth opening y (place_view q) named
  closed-with q named y sole at is place same =
      let P : Seat (Option T) (View T C E) × C × T → Type 0 = λ a. Closed truth opening a.2 (place_view a.0) a.1 in
      let value : sole.value ≡ y = some-same _ _ (sym (taken sole at) ∙ is) in
      subst P (λ i. (place i, same i, value i)) sole.closed
