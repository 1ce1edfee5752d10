-- A seat is cut in two, or takes in another, and the rule stays.
use Rattle.std.proofs.Common.{◌≡◌, ℕ, ◌+◌, ◌-◌, ◌<◌, List, [], ◌∷◌, ◌++◌, All, length, set, Option, Some, None, refl, sym, ap, ◌∙◌, subst, ⊎_elim, arith}
use mathlib.Core.Option.{some, some-injective}
use mathlib.Core.Logic.{dite}
use Rattle.std.proofs.lemmas.List.Elements.{All-nil}
use native.Mathlib.Decide.{ℕ_discrete}
use lib.ListN.{get_elem?}
use Rattle.atomic_table.specs.Table.{Me, Splits, Joins}
use Rattle.atomic_table.proofs.Lists.{at_snoc, at_longer, set_else}
use Rattle.turn_cell.specs.declared.view.View.{View}
use Rattle.turn_cell.specs.Stakes.{Stake, total, Begins, Once}
use Rattle.turn_cell.specs.Laws.{KeepsCut, KeepsMerge}
use Rattle.turn_cell.specs.Views.{WasHeld}
use Rattle.turn_cell.specs.Rule.{turning, at_home, stake_of, stakes_of, turn_of, share_of, Fits, IsKnown, Ruled}
use Rattle.turn_cell.specs.Steps.{IsIdle, kept_view, new_view, joined_view, spent_view, looked_view}
use Rattle.turn_cell.proofs.Stakes.{set-there, once-cut, once-merge}
use Rattle.turn_cell.proofs.Sums.{total-append, map-append}
use Rattle.turn_cell.proofs.Beginnings.{begins-none, begins-longer, begins-of_shorter, longer-first, longer-second}
use Rattle.turn_cell.proofs.Fitting.{waited-more, waited-set, not-held, fits-set, known-set, stakes-set, turns-set, shares-set}
use Rattle.turn_cell.proofs.Gate.{stands-here}

module _ {T C E : Type 0} (truth : T → T → List E → List (Stake C E) → Type 0) (opening : T) where
  -- an idle seat may be cut in two, where its claims may be
  pub splits : (id : ℕ) (v : View T C E) (claims kept given : C) (share : ℕ) → IsIdle (v, []) claims → 0 < share → share < v.share → KeepsCut truth claims kept given
      → Splits (Ruled truth opening) id v (kept_view share (Some kept) v) (new_view share (Some given) v)
  splits id v claims kept given share idle some_part less keeps s r at =
      let a : View T C E = kept_view share (Some kept) v in
      let b : View T C E = new_view share (Some given) v in
      let views : List (View T C E) = set s.views id a in
      let fit = r.fits id v at in
      let stands = stands-here truth opening s r id v claims at idle.claims_are in
      let turns : total turn_of (views ++ b ∷ []) ≡ total turn_of s.views =
      let t : total turn_of views + turning v.held ≡ total turn_of s.views + turning v.held = turns-set s.views id v a at in
      let u : total turn_of (views ++ b ∷ []) ≡ total turn_of views + (0 + 0) = total-append turn_of views (b ∷ []) in omega arith in
      let shares : total share_of (views ++ b ∷ []) ≡ total share_of s.views =
      let t : total share_of views + v.share ≡ total share_of s.views + (v.share - share) = shares-set s.views id v a at in
      let u : total share_of (views ++ b ∷ []) ≡ total share_of views + (share + 0) = total-append share_of views (b ∷ []) in omega arith in
      let stakes : stakes_of (views ++ b ∷ []) ≡ set (stakes_of s.views) id (Some kept, v.made) ++ (Some given, []) ∷ [] =
      map-append stake_of views (b ∷ []) ∙ ap (λ l. l ++ (Some given, []) ∷ []) (stakes-set s.views id a) in
      let known = known-set r.history s.views id v a at r.known (λ _ all. ((omega arith), all)) in
      let a_fits : Fits r.history r.value a = record { seen = fit.seen; told = fit.told; spent = λ z. absurd (omega arith); held = fit.held } in
      let b_fits : Fits r.history r.value b = record { seen = fit.seen; told = begins-none r.history; spent = λ z. absurd (omega arith); held = λ x e. absurd (not-held e) } in
      record {
        history = r.history;
        value = r.value;
        gate = r.gate ∙ ap (λ n. n ∷ []) (sym turns);
        one = (let h = r.one in omega arith);
        home = r.home ∙ ap (λ n. at_home n r.value ∷ []) (sym turns);
        shares = shares ∙ r.shares;
        fits = λ j u there. ⊎_elim
            (λ (was : get_elem? views j ≡ some u). fits-set r.history r.value s.views id a a_fits (λ k x _ e. r.fits k x e) j u was)
            (λ (same : b ≡ u). subst (Fits r.history r.value) same b_fits)
            (at_snoc views b u j there);
        known = record { number = known.number; view = known.view; here = at_longer views (b ∷ []) known.number known.view known.here; share = known.share; all = known.all };
        waited = λ j u there. ⊎_elim
            (λ (was : get_elem? views j ≡ some u). waited-set (length r.history + total turn_of s.views) (length r.history + total turn_of (views ++ b ∷ [])) s.views id a (omega arith)
            (waited-more (length r.history + total turn_of s.views) (length r.history + total turn_of (views ++ b ∷ [])) v.refused (omega arith) (r.waited id v at)) r.waited j u was)
            (λ (same : b ≡ u). subst (λ (x : View T C E). All (WasHeld (length r.history + total turn_of (views ++ b ∷ []))) x.refused) same (All-nil (WasHeld (length r.history + total turn_of (views ++ b ∷ [])))))
            (at_snoc views b u j there);
        once = subst (λ l. Once r.history l) (sym stakes) (once-cut r.history (stakes_of s.views) id (Some claims) (Some kept) (Some given) v.made r.once stands.here);
        holds = subst (truth opening r.value r.history) (sym stakes) (keeps opening r.value r.history (stakes_of s.views) id v.made stands);
      }

  -- an idle seat may take in another, where its claims may take in the other's
  pub joins : (id other : ℕ) (v w : View T C E) (mine theirs both : C) → IsIdle (v, []) mine → IsIdle (w, []) theirs → KeepsMerge truth mine theirs both
      → Joins (Ruled truth opening) id v other w (joined_view (Some both) v w) spent_view
  joins id other v w mine theirs both idle idle' keeps s r at apart after =
      let a : View T C E = joined_view (Some both) v w in
      let b : View T C E = spent_view in
      let first : List (View T C E) = set s.views id a in
      let views : List (View T C E) = set first other b in
      let there : get_elem? s.views other ≡ some w = sym (set_else s.views id other a apart) ∙ after in
      let fit = r.fits id v at in
      let fit' = r.fits other w there in
      let stands = stands-here truth opening s r id v mine at idle.claims_are in
      let stands' = stands-here truth opening s r other w theirs there idle'.claims_are in
      let turns : total turn_of views ≡ total turn_of s.views =
      let t : total turn_of first + turning v.held ≡ total turn_of s.views + turning v.held = turns-set s.views id v a at in
      let u : total turn_of views + turning w.held ≡ total turn_of first + 0 = turns-set first other w b after in
      let z : turning w.held ≡ 0 = ap turning idle'.held in omega arith in
      let shares : total share_of views ≡ total share_of s.views =
      let t : total share_of first + v.share ≡ total share_of s.views + (v.share + w.share) = shares-set s.views id v a at in
      let u : total share_of views + w.share ≡ total share_of first + 0 = shares-set first other w b after in omega arith in
      let stakes : stakes_of views ≡ set (set (stakes_of s.views) id (Some both, v.made ++ w.made)) other (None, []) =
      stakes-set first other b ∙ ap (λ l. set l other (None, [])) (stakes-set s.views id a) in
      let a_fits : Fits r.history r.value a = record {
        seen = begins-longer v.seen w.seen r.history fit.seen fit'.seen;
        told = begins-of_shorter v.seen w.seen r.history fit.seen fit'.seen;
        spent = λ z. absurd (let p = idle.share in omega arith);
        held = λ x e. absurd (not-held (sym idle.held ∙ e));
      } in
      let b_fits : Fits r.history r.value b = record { seen = begins-none r.history; told = begins-none r.history; spent = λ z. (refl, refl, refl); held = λ x e. absurd (not-held e) } in
      record {
        history = r.history;
        value = r.value;
        gate = r.gate ∙ ap (λ n. n ∷ []) (sym turns);
        one = (let h = r.one in omega arith);
        home = r.home ∙ ap (λ n. at_home n r.value ∷ []) (sym turns);
        shares = shares ∙ r.shares;
        fits = fits-set r.history r.value first other b b_fits (λ j u _ e. fits-set r.history r.value s.views id a a_fits (λ k x _ e'. r.fits k x e') j u e);
        known = known-joined r.history s.views id other v w a b at there apart (let p = idle.share in omega arith) fit.seen fit'.seen refl r.known;
        waited = waited-set (length r.history + total turn_of s.views) (length r.history + total turn_of views) first other b (omega arith) (All-nil (WasHeld (length r.history + total turn_of views)))
            (waited-set (length r.history + total turn_of s.views) (length r.history + total turn_of s.views) s.views id a (omega arith) (r.waited id v at) r.waited);
        once = subst (λ l. Once r.history l) (sym stakes) (once-merge r.history (stakes_of s.views) id other (Some mine) (Some theirs) (Some both) v.made w.made r.once apart stands.here stands'.here);
        holds = subst (truth opening r.value r.history) (sym stakes) (keeps opening r.value r.history (stakes_of s.views) id other v.made w.made stands apart stands'.here);
      }
    where
      known-joined : (h : List E) (views : List (View T C E)) (id other : ℕ) (v w a b : View T C E) → get_elem? views id ≡ some v → get_elem? views other ≡ some w → ¬ (other ≡ id)
          → 0 < a.share → Begins v.seen h → Begins w.seen h → a.seen ≡ Rattle.turn_cell.specs.Views.longer v.seen w.seen → IsKnown h views → IsKnown h (set (set views id a) other b)
      known-joined h views id other v w a b at there apart share begins begins' seen k =
          let here : get_elem? (set (set views id a) other b) id ≡ some a = set_else (set views id a) other id b (λ e. apart (sym e)) ∙ set-there views id v a at in
          dite (ℕ_discrete k.number id)
          (λ e.
          let is : k.view ≡ v = some-injective k.view v (sym k.here ∙ ap (get_elem? views) e ∙ at) in
          record { number = id; view = a; here = here; share = share; all = seen ∙ longer-first v.seen w.seen h begins' (ap (λ (u : View T C E). u.seen) (sym is) ∙ k.all) })
          (λ ne. dite (ℕ_discrete k.number other)
          (λ e.
          let is : k.view ≡ w = some-injective k.view w (sym k.here ∙ ap (get_elem? views) e ∙ there) in
          record { number = id; view = a; here = here; share = share; all = seen ∙ longer-second v.seen w.seen h begins (ap (λ (u : View T C E). u.seen) (sym is) ∙ k.all) })
          (λ ne'. record { number = k.number; view = k.view; here = set_else (set views id a) other k.number b ne' ∙ set_else views id k.number a ne ∙ k.here; share = k.share; all = k.all }))

module _ {T C E : Type 0} where
  pub idle-view : (me : Me (Option T) (View T C E)) (claims : C) → IsIdle me claims → IsIdle (me.0, []) claims
  idle-view me claims idle = record { slots = refl; held = idle.held; told = idle.told; claims_are = idle.claims_are; share = idle.share }

  pub idle-kept : (me after : Me (Option T) (View T C E)) (claims kept : C) (share : ℕ) → IsIdle me claims → share < me.0.share → after ≡ (kept_view share (Some kept) me.0, me.1) → IsIdle after kept
  idle-kept me after claims kept share idle less is =
      subst (λ (m : Me (Option T) (View T C E)). IsIdle m kept) (sym is) (record { slots = idle.slots; held = idle.held; told = idle.told; claims_are = refl; share = omega arith })

  pub idle-new : (v : View T C E) (given : C) (share : ℕ) → 0 < share → IsIdle (new_view share (Some given) v, []) given
  idle-new v given share some_part = record { slots = refl; held = refl; told = refl; claims_are = refl; share = some_part }

  -- after the look a seat that took in another is idle again
  pub idle-joined : (me other last : Me (Option T) (View T C E)) (mine theirs both : C) → IsIdle me mine → IsIdle other theirs → last ≡ (looked_view (joined_view (Some both) me.0 other.0), []) → IsIdle last both
  idle-joined me other last mine theirs both idle idle' is =
      subst (λ (m : Me (Option T) (View T C E)). IsIdle m both) (sym is) (record { slots = refl; held = idle.held; told = refl; claims_are = refl; share = (let a = idle.share in omega arith) })
