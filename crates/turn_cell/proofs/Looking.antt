-- A look at the gate compares what a joined seat had seen with what this seat has seen, and keeps the rule.
use Rattle.std.proofs.Common.{◌≡◌, ℕ, ◌+◌, ◌≤◌, List, [], ◌∷◌, length, set, Option, Some, refl, sym, ap, ◌∙◌, subst, arith}
use Rattle.std.specs.Prelude.{slice_index}
use Rattle.atomic_table.specs.Table.{Me, keeps, Allows}
use Rattle.turn_cell.specs.declared.view.View.{View}
use Rattle.turn_cell.specs.Stakes.{Stake, total, Begins, Once}
use Rattle.turn_cell.specs.Rule.{turning, at_home, stakes_of, turn_of, share_of, Ruled}
use Rattle.turn_cell.specs.Steps.{Looked, shorter, looked_view, joined_view}
use Rattle.turn_cell.specs.Views.{longer}
use Rattle.turn_cell.proofs.Beginnings.{begins-none, begins-shorter, begins-both, shorter-length}
use Rattle.turn_cell.proofs.Fitting.{waited-more, waited-set, fits-set, known-set, stakes-same, turns-set, shares-set}
use Rattle.turn_cell.proofs.Gate.{words-set, word-is}

module _ {T C E : Type 0} (truth : T → T → List E → List (Stake C E) → Type 0) (opening : T) where
  pub looks : (id : ℕ) (v : View T C E) → Allows (Ruled truth opening) 1 id (v, []) 0 (λ n. n) (λ _ me. Looked v me)
  looks id v s r len at below =
      let w : View T C E = looked_view v in
      let n : ℕ = slice_index s.words 0 in
      let gate : n ≡ total turn_of s.views = word-is s.words (total turn_of s.views) r.gate in
      let turns : total turn_of (set s.views id w) ≡ total turn_of s.views = let t : total turn_of (set s.views id w) + turning v.held ≡ total turn_of s.views + turning v.held = turns-set s.views id v w at in omega arith in
      let same : stakes_of (set s.views id w) ≡ stakes_of s.views = stakes-same s.views id v w at refl in
      let fit = r.fits id v at in (
        w,
        keeps,
        tt,
        record {
          history = r.history;
          value = r.value;
          gate = words-set s.words (total turn_of s.views) n (total turn_of (set s.views id w)) r.gate (gate ∙ sym turns);
          one = (let h = r.one in omega arith);
          home = r.home ∙ ap (λ k. at_home k r.value ∷ []) (sym turns);
          shares = (let t : total share_of (set s.views id w) + v.share ≡ total share_of s.views + v.share = shares-set s.views id v w at in let h = r.shares in omega arith);
          fits = fits-set r.history r.value s.views id w (record { seen = fit.seen; told = begins-none r.history; spent = fit.spent; held = fit.held }) (λ j u _ there. r.fits j u there);
          known = known-set r.history s.views id v w at r.known (λ share all. (share, all));
          once = subst (λ stakes. Once r.history stakes) (sym same) r.once;
          waited = waited-set (length r.history + total turn_of s.views) (length r.history + total turn_of (set s.views id w)) s.views id w (omega arith)
              (waited-more (length r.history + total turn_of s.views) (length r.history + total turn_of (set s.views id w)) v.refused (omega arith) (r.waited id v at)) r.waited;
          holds = subst (truth opening r.value r.history) (sym same) r.holds;
        },
        record { compared = λ le. begins-shorter v.told v.seen r.history fit.told fit.seen le; me_is = refl },
      )

  pub looks-at : (id : ℕ) (me : Me (Option T) (View T C E)) → me.1 ≡ [] → Allows (Ruled truth opening) 1 id me 0 (λ n. n) (λ _ after. Looked me.0 after)
  looks-at id me slots =
      let is : me ≡ (me.0, []) = ap (λ (c : List (ℕ × Option T)). (me.0, c)) slots in
      subst (λ (m : Me (Option T) (View T C E)). Allows (Ruled truth opening) 1 id m 0 (λ n. n) (λ _ after. Looked m.0 after)) (sym is) (looks id me.0)

module _ {T C E : Type 0} where
  -- the view of a seat that took in another, after the look
  pub looked-joined : (me other after last : Me (Option T) (View T C E)) (both : C) → after ≡ (joined_view (Some both) me.0 other.0, me.1) → Looked after.0 last
      → last ≡ (looked_view (joined_view (Some both) me.0 other.0), [])
  looked-joined me other after last both joined look = look.me_is ∙ ap (λ (m : Me (Option T) (View T C E)). (looked_view m.0, [])) joined

  -- what both seats had seen begins what the one has seen after the look
  pub begins-joined : (me other after last : Me (Option T) (View T C E)) (both : C) → after ≡ (joined_view (Some both) me.0 other.0, me.1) → Looked after.0 last
      → Begins me.0.seen last.0.seen × Begins other.0.seen last.0.seen
  begins-joined me other after last both joined look =
      let mine : List E = me.0.seen in
      let theirs : List E = other.0.seen in
      let compared : Begins (shorter mine theirs) (longer mine theirs) =
      subst (λ (m : Me (Option T) (View T C E)). length m.0.told ≤ length m.0.seen → Begins m.0.told m.0.seen) joined look.compared (shorter-length mine theirs) in
      let seen : last.0.seen ≡ longer mine theirs = ap (λ (m : Me (Option T) (View T C E)). m.0.seen) (looked-joined me other after last both joined look) in
      subst (λ l. Begins mine l × Begins theirs l) (sym seen) (begins-both mine theirs compared)
