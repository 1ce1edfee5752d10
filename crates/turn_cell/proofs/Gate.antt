-- A compare and exchange at the gate wins it, or finds it held.
use Rattle.std.proofs.Common.{◌≡◌, ◌≢◌, ℕ, ◌+◌, eqb, List, [], ◌∷◌, length, set, Option, Some, refl, sym, ap, ◌∙◌, subst, eq-eqb, ne_eqb, arith}
use Rattle.std.specs.Prelude.{slice_index, slice_set, ◌==◌}
use mathlib.Core.Option.{some, none}
use mathlib.Core.Logic.{dite}
use native.Mathlib.Decide.{ℕ_discrete}
use prog.Atomic.{either}
use lib.ListN.{get_elem?}
use Rattle.atomic_table.specs.Table.{State, Me, Act, keeps, takes, Allows, stepped, Valid, carried_after}
use Rattle.atomic_table.proofs.Lists.{at_map}
use Rattle.turn_cell.specs.declared.view.View.{View}
use Rattle.turn_cell.specs.Stakes.{Stake, total, Once}
use Rattle.turn_cell.specs.Laws.{Stands}
use Rattle.turn_cell.specs.Rule.{turning, at_home, stake_of, stakes_of, turn_of, share_of, Ruled}
use Rattle.turn_cell.specs.Steps.{IsIdle, Tried, won_view, refused_view}
use Rattle.turn_cell.proofs.Beginnings.{begins-self, begins-length}
use Rattle.turn_cell.proofs.Stakes.{set-there}
use Rattle.turn_cell.proofs.Fitting.{waited-more, waited-next, waited-set, fits-set, known-set, stakes-same, turns-set, shares-set}

either-hit : (n m : ℕ) → n ≡ 0 → either (eqb n 0) m n ≡ m
either-hit n m e = ap (λ b. either b m n) (eq-eqb n 0 e)

either-miss : (n m : ℕ) → n ≢ 0 → either (eqb n 0) m n ≡ n
either-miss n m ne = ap (λ b. either b m n) (ne_eqb n 0 ne)

pub words-set : (words : List ℕ) (n m k : ℕ) → words ≡ n ∷ [] → m ≡ k → slice_set words 0 m ≡ k ∷ []
words-set words n m k is e = ap (λ ws. slice_set ws 0 m) is ∙ ap (λ x. x ∷ []) e

pub word-is : (words : List ℕ) (n : ℕ) → words ≡ n ∷ [] → slice_index words 0 ≡ n
word-is words n is = ap (λ ws. slice_index ws 0) is

module _ {T C E : Type 0} (truth : T → T → List E → List (Stake C E) → Type 0) (opening : T) where
  pub stands-here : (s : State (Option T) (View T C E)) (r : Ruled truth opening s) (id : ℕ) (v : View T C E) (claims : C) → get_elem? s.views id ≡ some v → v.claims ≡ Some claims
      → Stands truth opening r.value r.history (stakes_of s.views) id claims v.made
  stands-here s r id v claims at are =
      record { here = at_map stake_of s.views id v at ∙ ap (λ c. some (c, v.made)) are; once = r.once; holds = r.holds }

  module _ (id : ℕ) (v : View T C E) (claims : C) (idle : IsIdle (v, []) claims) where
    abbrev Goal : State (Option T) (View T C E) → ℕ → Type 0
    Goal s n = (w : View T C E) × (a : Act (Option T)) × Valid s.homes [] a × Ruled truth opening (stepped s 0 n id [] w a) × Tried truth opening id claims v (slice_index s.words 0) (w, carried_after [] a)

    hit : (s : State (Option T) (View T C E)) → Ruled truth opening s → get_elem? s.views id ≡ some v → slice_index s.words 0 ≡ 0 → Goal s 1
    hit s r at free =
        let w : View T C E = won_view r.value r.history v in
        let gate : slice_index s.words 0 ≡ total turn_of s.views = word-is s.words (total turn_of s.views) r.gate in
        let none_turns : total turn_of s.views ≡ 0 = sym gate ∙ free in
        let out : turning v.held ≡ 0 = ap turning idle.held in
        let one : total turn_of (set s.views id w) ≡ 1 = let t : total turn_of (set s.views id w) + turning v.held ≡ total turn_of s.views + 1 = turns-set s.views id v w at in omega arith in
        let homes : s.homes ≡ some (Some r.value) ∷ [] = r.home ∙ ap (λ n. at_home n r.value ∷ []) none_turns in
        let same : stakes_of (set s.views id w) ≡ stakes_of s.views = stakes-same s.views id v w at refl in
        let fit = r.fits id v at in (
          w,
          takes 0 (Some r.value),
          ap (λ hs. get_elem? hs 0) homes,
          record {
            history = r.history;
            value = r.value;
            gate = words-set s.words (total turn_of s.views) 1 (total turn_of (set s.views id w)) r.gate (sym one);
            one = omega arith;
            home = ap (λ hs. slice_set hs 0 none) homes ∙ ap (λ n. at_home n r.value ∷ []) (sym one);
            shares = (let t : total share_of (set s.views id w) + v.share ≡ total share_of s.views + v.share = shares-set s.views id v w at in let h = r.shares in omega arith);
            fits = fits-set r.history r.value s.views id w
                (record {
                  seen = begins-self r.history;
                  told = fit.told;
                  spent = λ z. absurd (let p = idle.share in omega arith);
                  held = λ x e. ((cc), refl);
                })
                (λ j u _ there. r.fits j u there);
            known = record { number = id; view = w; here = set-there s.views id v w at; share = idle.share; all = refl };
            once = subst (λ stakes. Once r.history stakes) (sym same) r.once;
            waited = waited-set (length r.history + total turn_of s.views) (length r.history + total turn_of (set s.views id w)) s.views id w (omega arith)
                (waited-more (length r.history + total turn_of s.views) (length r.history + total turn_of (set s.views id w)) v.refused (omega arith) (r.waited id v at)) r.waited;
            holds = subst (truth opening r.value r.history) (sym same) r.holds;
          },
          record {
            won = λ _. record {
              value = r.value;
              history = r.history;
              stakes = stakes_of s.views;
              begins = fit.seen;
              stands = stands-here s r id v claims at idle.claims_are;
              me_is = refl;
            };
            refused = λ ne. absurd (ne free);
          },
        )

    miss : (s : State (Option T) (View T C E)) → Ruled truth opening s → get_elem? s.views id ≡ some v → slice_index s.words 0 ≢ 0 → Goal s (slice_index s.words 0)
    miss s r at held =
        let n : ℕ = slice_index s.words 0 in
        let turn : ℕ = length r.history in
        let w : View T C E = refused_view n turn v in
        let gate : n ≡ total turn_of s.views = word-is s.words (total turn_of s.views) r.gate in
        let one : n ≡ 1 = let h = r.one in let some_turn : ¬ (n ≡ 0) = held in omega arith in
        let turns : total turn_of (set s.views id w) ≡ total turn_of s.views = let t : total turn_of (set s.views id w) + turning v.held ≡ total turn_of s.views + turning v.held = turns-set s.views id v w at in omega arith in
        let same : stakes_of (set s.views id w) ≡ stakes_of s.views = stakes-same s.views id v w at refl in
        let fit = r.fits id v at in (
          w,
          keeps,
          tt,
          record {
            history = r.history;
            value = r.value;
            gate = words-set s.words (total turn_of s.views) n (total turn_of (set s.views id w)) r.gate (gate ∙ sym turns);
            one = (let h = r.one in omega arith);
            home = r.home ∙ ap (λ k. at_home k r.value ∷ []) (sym turns);
            shares = (let t : total share_of (set s.views id w) + v.share ≡ total share_of s.views + v.share = shares-set s.views id v w at in let h = r.shares in omega arith);
            fits = fits-set r.history r.value s.views id w (record { seen = fit.seen; told = fit.told; spent = fit.spent; held = fit.held }) (λ j u _ there. r.fits j u there);
            known = known-set r.history s.views id v w at r.known (λ share all. (share, all));
            once = subst (λ stakes. Once r.history stakes) (sym same) r.once;
            waited = waited-set (turn + total turn_of s.views) (turn + total turn_of (set s.views id w)) s.views id w (omega arith)
                (waited-next (turn + total turn_of (set s.views id w)) n turn v.refused one (omega arith)
                (waited-more (turn + total turn_of s.views) (turn + total turn_of (set s.views id w)) v.refused (omega arith) (r.waited id v at))) r.waited;
            holds = subst (truth opening r.value r.history) (sym same) r.holds;
          },
          record { won = λ free. absurd (held free); refused = λ _. record { turn = turn; unseen = begins-length v.seen r.history fit.seen; held = one; me_is = refl } },
        )

    tries-idle : Allows (Ruled truth opening) 1 id (v, []) 0 (λ n. either (n == 0) 1 n) (Tried truth opening id claims v)
    tries-idle s r len at below =
        dite (ℕ_discrete (slice_index s.words 0) 0)
        (λ free. subst (Goal s) (sym (either-hit (slice_index s.words 0) 1 free)) (hit s r at free))
        (λ held. subst (Goal s) (sym (either-miss (slice_index s.words 0) 1 held)) (miss s r at held))

  -- whatever the table is, the compare and exchange of an idle seat keeps the rule, and tells whether it won
  pub tries : (id : ℕ) (me : Me (Option T) (View T C E)) (claims : C) → IsIdle me claims → Allows (Ruled truth opening) 1 id me 0 (λ n. either (n == 0) 1 n) (Tried truth opening id claims me.0)
  tries id me claims idle =
      let slots : me ≡ (me.0, []) = ap (λ (c : List (ℕ × Option T)). (me.0, c)) idle.slots in
      subst (λ (m : Me (Option T) (View T C E)). Allows (Ruled truth opening) 1 id m 0 (λ n. either (n == 0) 1 n) (Tried truth opening id claims m.0)) (sym slots)
      (tries-idle id me.0 claims (subst (λ (m : Me (Option T) (View T C E)). IsIdle m claims) slots idle))
