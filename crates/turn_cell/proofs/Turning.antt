-- What the steps of one turn come to.
use Rattle.std.proofs.Common.{◌≡◌, ℕ, ◌<◌, List, [], ◌∷◌, ◌++◌, set, Option, Some, None, refl, sym, ap, ◌∙◌, subst}
use Rattle.atomic_table.specs.Table.{Me, rest}
use Rattle.turn_cell.specs.declared.view.View.{View}
use Rattle.turn_cell.specs.Stakes.{Stake}
use Rattle.turn_cell.specs.Laws.{Stands, Standing}
use Rattle.turn_cell.specs.Steps.{IsIdle, Won, Left, Refused, won_view, left_view}
use Rattle.turn_cell.specs.Views.{SeatView, Turned}
use Rattle.turn_cell.proofs.Leaving.{IsTurning}
use Rattle.turn_cell.proofs.Stakes.{own-seen}

pub some-same : {T : Type 0} (x y : T) → Some x ≡ Some y → x ≡ y
some-same x y e = cc

abbrev second : {S : Type 0} → S → List (ℕ × S) → S
second x [] = x
second x (z ∷ zs) = z.1

module _ {T C E : Type 0} where
  -- a seat whose compare and exchange was refused is idle
  pub idle-refused : (word : ℕ) {me after : Me (Option T) (View T C E)} {claims : C} → IsIdle me claims → Refused me.0 word after → IsIdle after claims
  idle-refused word {claims} idle refused =
      subst (λ (m : Me (Option T) (View T C E)). IsIdle m claims) (sym refused.me_is) (record { slots = refl; held = idle.held; told = idle.told; claims_are = idle.claims_are; share = idle.share })

  -- a seat that freed the gate is idle
  pub idle-left : (v : View T C E) (entry : E) {after : Me (Option T) (View T C E)} {left : C} → after ≡ (left_view entry left v, []) → v.told ≡ [] → 0 < v.share → IsIdle after left
  idle-left v entry {left} is told share = subst (λ (m : Me (Option T) (View T C E)). IsIdle m left) (sym is) (record { slots = refl; held = refl; told = told; claims_are = refl; share = share })

  -- the slot that the seat holds has the value
  pub slot-won : {truth : T → T → List E → List (Stake C E) → Type 0} {opening : T} {id : ℕ} {claims : C} {v : View T C E} {me : Me (Option T) (View T C E)} (won : Won truth opening id claims v me)
      → me.1 ≡ (0, Some won.value) ∷ rest me.1
  slot-won {me} won =
      let is : me.1 ≡ (0, Some won.value) ∷ [] = ap (λ (m : Me (Option T) (View T C E)). m.1) won.me_is in
      let none : rest me.1 ≡ [] = ap rest is in is ∙ sym (ap (λ z. (0, Some won.value) ∷ z) none)

  pub found-won : {truth : T → T → List E → List (Stake C E) → Type 0} {opening : T} {id : ℕ} {claims : C} {v : View T C E} {me : Me (Option T) (View T C E)} {x : Option T} (won : Won truth opening id claims v me)
      → me.1 ≡ (0, x) ∷ rest me.1 → x ≡ Some won.value
  found-won {x} won found = ap (second x) (sym found ∙ slot-won won)

  pub value-won : {truth : T → T → List E → List (Stake C E) → Type 0} {opening : T} {id : ℕ} {claims : C} {v : View T C E} {me : Me (Option T) (View T C E)} {x : Option T} {y : T} (won : Won truth opening id claims v me)
      → me.1 ≡ (0, x) ∷ rest me.1 → x ≡ Some y → y ≡ won.value
  value-won won found is = some-same _ _ (sym is ∙ found-won won found)

  -- once the value was moved out, the slot is empty, and the view is as the gate left it
  pub empty-won : {truth : T → T → List E → List (Stake C E) → Type 0} {opening : T} {id : ℕ} {claims : C} {v : View T C E} {me after : Me (Option T) (View T C E)} (won : Won truth opening id claims v me)
      → after ≡ (me.0, (0, None) ∷ rest me.1) → after.1 ≡ (0, None) ∷ []
  empty-won won is = ap (λ (m : Me (Option T) (View T C E)). m.1) is ∙ ap (λ (m : Me (Option T) (View T C E)). (0, None) ∷ rest m.1) won.me_is

  pub view-won : {truth : T → T → List E → List (Stake C E) → Type 0} {opening : T} {id : ℕ} {claims : C} {v : View T C E} {me after : Me (Option T) (View T C E)} (won : Won truth opening id claims v me)
      → after ≡ (me.0, (0, None) ∷ rest me.1) → after.0 ≡ won_view won.value won.history v
  view-won won is = ap (λ (m : Me (Option T) (View T C E)). m.0) is ∙ ap (λ (m : Me (Option T) (View T C E)). m.0) won.me_is

  pub turning-won : {truth : T → T → List E → List (Stake C E) → Type 0} {opening : T} {id : ℕ} {claims : C} {v w : View T C E} {me : Me (Option T) (View T C E)} {y : T} (won : Won truth opening id claims v me)
      → w ≡ won_view won.value won.history v → y ≡ won.value → v.claims ≡ Some claims → 0 < v.share → IsTurning v.seen claims y w
  turning-won {claims} {v} {y} won is value are share =
      subst (IsTurning v.seen claims y) (sym is) (record { held = ap Some (sym value); claims_are = are; share = share; begins = won.begins })

module _ {T C E : Type 0} (truth : T → T → List E → List (Stake C E) → Type 0) (opening : T) where
  pub standing-won : (ready : T → List E → C → Type 0) {id : ℕ} {claims : C} {v : View T C E} {me : Me (Option T) (View T C E)} {y : T} (won : Won truth opening id claims v me) → y ≡ won.value → ready opening v.seen claims
      → Standing truth ready y claims
  standing-won ready {id} {claims} {v} won value is_ready = subst (λ x. Standing truth ready x claims) (sym value) (record {
    opening = opening;
    seen = v.seen;
    history = won.history;
    stakes = won.stakes;
    number = id;
    made = v.made;
    begins = won.begins;
    stands = won.stands;
    is_ready = is_ready;
  })

  -- the whole of a turn, from the seat `before` to the seat `after`
  pub turned-left : (does : T → List E → T → T → E → Type 0) (id : ℕ) (claims left : C) (value next : T) (w : View T C E) (me' : Me (Option T) (View T C E)) (before after : SeatView E) {k : ℕ} {v : View T C E} {me : Me (Option T) (View T C E)} (won : Won truth opening k claims v me)
      → w ≡ won_view won.value won.history v → Left truth (λ o history entry. does o history value next entry) opening id claims value left next w me'
      → v.seen ≡ before.seen → v.made ≡ before.made → after.seen ≡ me'.0.seen → after.made ≡ me'.0.made → Turned truth (does opening) opening claims left before after
  turned-left does id claims left value next w me' before after won is l seen made seen' made' =
      let others : List E = won.begins.0 in
      let w_seen : before.seen ++ others ≡ w.seen = ap (λ h. h ++ others) (sym seen) ∙ won.begins.1 ∙ sym (ap (λ (u : View T C E). u.seen) is) in
      let w_made : w.made ≡ before.made = ap (λ (u : View T C E). u.made) is ∙ made in
      let seen_is : after.seen ≡ w.seen ++ l.entry ∷ [] = seen' ∙ ap (λ (m : Me (Option T) (View T C E)). m.0.seen) l.me_is in
      let made_is : after.made ≡ w.made ++ l.entry ∷ [] = made' ∙ ap (λ (m : Me (Option T) (View T C E)). m.0.made) l.me_is in
      let stood = subst (λ ms. Stands truth opening value w.seen l.stakes id claims ms) w_made l.stood in
      let P : List E × List E → Type 0 = λ p. Stands truth opening next p.0 (set l.stakes id (Some left, p.1)) id left p.1 in
      let stands = subst P (λ i. (sym seen_is i, sym made_is i)) l.stands in
      record {
        others = others;
        entry = l.entry;
        value = value;
        next = next;
        number = id;
        stakes = l.stakes;
        seen_is = seen_is ∙ ap (λ h. h ++ l.entry ∷ []) (sym w_seen);
        made_is = made_is ∙ ap (λ ms. ms ++ l.entry ∷ []) w_made;
        done = subst (λ h. does opening h value next l.entry) (sym w_seen) l.done;
        stood = subst (λ h. Stands truth opening value h l.stakes id claims before.made) (sym w_seen) stood;
        stands = stands;
        own = own-seen stands;
      }
