-- The swap that frees the gate makes one entry, and keeps the rule.
use Rattle.std.proofs.Common.{◌≡◌, ℕ, ◌+◌, ◌<◌, ◌≤◌, List, [], ◌∷◌, ◌++◌, length, length-append, set, Some, refl, sym, ap, ◌∙◌, subst, arith}
use Rattle.std.specs.Prelude.{slice_set}
use mathlib.Core.Option.{some}
use Rattle.atomic_table.specs.Table.{gives, Allows}
use Rattle.turn_cell.specs.declared.view.View.{View}
use Rattle.turn_cell.specs.Stakes.{Stake, total, Begins, Once}
use Rattle.turn_cell.specs.Laws.{Stands, Standing, Advanced, KeepsTurn}
use Rattle.turn_cell.specs.Rule.{turning, at_home, stakes_of, turn_of, share_of, Ruled}
use Rattle.turn_cell.specs.Steps.{Left, left_view}
use Rattle.turn_cell.proofs.Stakes.{set-there, once-more}
use Rattle.turn_cell.proofs.Sums.{total-at, total-sole}
use Rattle.turn_cell.proofs.Beginnings.{begins-self, begins-more, begins-then}
use Rattle.turn_cell.proofs.Fitting.{waited-more, waited-set, not-held, fits-set, stakes-set, turns-set, shares-set}
use Rattle.turn_cell.proofs.Gate.{words-set, stands-here}

-- What the seat of the turn knows as it frees the gate
pub record IsTurning {T C E : Type 0} (seen : List E) (claims : C) (value : T) (v : View T C E) : Type 0 where
  pub held : v.held ≡ Some value
  pub claims_are : v.claims ≡ Some claims
  pub share : 0 < v.share
  pub begins : Begins seen v.seen

module _ {T C E : Type 0} (truth : T → T → List E → List (Stake C E) → Type 0) (opening : T) (ready : T → List E → C → Type 0) (does : T → List E → E → Type 0) where
  -- whatever the table is, the seat whose turn runs may free the gate, and one entry is made as the change did
  pub leaves : (id : ℕ) (seen : List E) (claims : C) (value : T) (v : View T C E) (left : C) (next : T) → IsTurning seen claims value v → ready opening seen claims
      → KeepsTurn truth ready does value claims next left
      → Allows (Ruled truth opening) 1 id (v, (0, Some next) ∷ []) 0 (λ _. 0) (λ _ me. Left truth does opening id claims value left next v me)
  leaves id seen claims value v left next turn is_ready keeps s r len at below =
      let fit = r.fits id v at in
      let value_is : value ≡ r.value = (fit.held value turn.held).0 in
      let seen_is : v.seen ≡ r.history = (fit.held value turn.held).1 in
      let stands : Stands truth opening value r.history (stakes_of s.views) id claims v.made =
      subst (λ (x : T). Stands truth opening x r.history (stakes_of s.views) id claims v.made) (sym value_is) (stands-here truth opening s r id v claims at turn.claims_are) in
      let began : Standing truth ready value claims = record {
        opening = opening;
        seen = seen;
        history = r.history;
        stakes = stakes_of s.views;
        number = id;
        made = v.made;
        begins = subst (Begins seen) seen_is turn.begins;
        stands = stands;
        is_ready = is_ready;
      } in
      let moved : Advanced truth does opening next r.history (stakes_of s.views) id left v.made = keeps began in
      let entry : E = moved.entry in
      let w : View T C E = left_view entry left v in
      let on : turning v.held ≡ 1 = ap turning turn.held in
      let one : total turn_of s.views ≤ 1 = r.one in
      let mine : turning v.held ≤ total turn_of s.views = total-at turn_of s.views id v at in
      let off : total turn_of (set s.views id w) ≡ 0 = let t : total turn_of (set s.views id w) + turning v.held ≡ total turn_of s.views + 0 = turns-set s.views id v w at in omega arith in
      let new_stakes : stakes_of (set s.views id w) ≡ set (stakes_of s.views) id (Some left, v.made ++ entry ∷ []) = stakes-set s.views id w in
      let history : List E = r.history ++ entry ∷ [] in
      let once : Once history (set (stakes_of s.views) id (Some left, v.made ++ entry ∷ [])) = once-more r.history (stakes_of s.views) id entry (Some claims) (Some left) v.made r.once stands.here in
      let seen_now : v.seen ++ entry ∷ [] ≡ history = ap (λ h. h ++ entry ∷ []) seen_is in (
        w,
        gives,
        tt,
        record {
          history = history;
          value = next;
          gate = words-set s.words (total turn_of s.views) 0 (total turn_of (set s.views id w)) r.gate (sym off);
          one = omega arith;
          home = ap (λ hs. slice_set hs 0 (some (Some next))) r.home ∙ ap (λ n. at_home n next ∷ []) (sym off);
          shares = (let t : total share_of (set s.views id w) + v.share ≡ total share_of s.views + v.share = shares-set s.views id v w at in let h = r.shares in omega arith);
          fits = fits-set history next s.views id w
              (record {
                seen = subst (λ h. Begins h history) (sym seen_now) (begins-self history);
                told = begins-then v.told r.history history fit.told (begins-more r.history (entry ∷ []));
                spent = λ z. absurd (let p = turn.share in omega arith);
                held = λ x e. absurd (not-held e);
              })
              (λ j u apart there.
              let f = r.fits j u there in
              let idle : turning u.held ≡ 0 = total-sole turn_of s.views id j v u at (omega arith) apart there in
              record {
                seen = begins-then u.seen r.history history f.seen (begins-more r.history (entry ∷ []));
                told = begins-then u.told r.history history f.told (begins-more r.history (entry ∷ []));
                spent = f.spent;
                held = λ x e. absurd (let on' : turning u.held ≡ 1 = ap turning e in omega arith);
              });
          known = record { number = id; view = w; here = set-there s.views id v w at; share = turn.share; all = seen_now };
          once = subst (λ stakes. Once history stakes) (sym new_stakes) once;
          waited =
              let long : length history ≡ length r.history + 1 = length-append r.history (entry ∷ []) in
              waited-set (length r.history + total turn_of s.views) (length history + total turn_of (set s.views id w)) s.views id w (omega arith)
              (waited-more (length r.history + total turn_of s.views) (length history + total turn_of (set s.views id w)) v.refused (omega arith) (r.waited id v at)) r.waited;
          holds = subst (truth opening next history) (sym new_stakes) moved.holds;
        },
        record {
          entry = entry;
          stakes = stakes_of s.views;
          done = subst (λ h. does opening h entry) (sym seen_is) moved.done;
          stood = subst (λ h. Stands truth opening value h (stakes_of s.views) id claims v.made) (sym seen_is) stands;
          stands = subst (λ h. Stands truth opening next h (set (stakes_of s.views) id (Some left, v.made ++ entry ∷ [])) id left (v.made ++ entry ∷ [])) (sym seen_now)
              (record { here = set-there (stakes_of s.views) id (Some claims, v.made) (Some left, v.made ++ entry ∷ []) stands.here; once = once; holds = moved.holds });
          me_is = refl;
        },
      )
