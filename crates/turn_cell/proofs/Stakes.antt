-- What seats claim and made, as one seat's stake changes, a seat is added, or one takes in another.
use Rattle.std.proofs.Common.{◌≡◌, ◌≢◌, ℕ, zero, suc, ◌+◌, ◌≤◌, List, [], ◌∷◌, ◌++◌, map, set, Option, Some, None, refl, sym, ap, ◌∙◌, arith}
use mathlib.Core.Option.{some, some-injective, some-ne-none}
use lib.ListN.{get_elem?}
use Rattle.atomic_table.proofs.Lists.{set_else}
use Rattle.turn_cell.specs.Stakes.{Stake, total, tally, Once}
use Rattle.turn_cell.specs.Laws.{Stands}
use Rattle.turn_cell.proofs.Sums.{total-append, total-set, total-at, total-alone}

module _ {A : Type 0} where
  pub set-there : (xs : List A) (i : ℕ) (a b : A) → get_elem? xs i ≡ some a → get_elem? (set xs i b) i ≡ some b
  set-there [] i a b at = absurd (some-ne-none a (sym at))
  set-there (x ∷ xs) zero a b at = refl
  set-there (x ∷ xs) (suc i) a b at = set-there xs i a b at

  pub map-there : {B : Type 0} (g : A → B) (xs : List A) (i : ℕ) (b : B) → get_elem? (map g xs) i ≡ some b → (a : A) × (get_elem? xs i ≡ some a) × (g a ≡ b)
  map-there g [] i b at = absurd (some-ne-none b (sym at))
  map-there g (x ∷ xs) zero b at = (x, refl, some-injective (g x) b at)
  map-there g (x ∷ xs) (suc i) b at = map-there g xs i b at

module _ {C E : Type 0} where
  -- one entry more in the history and in what one seat made
  pub once-more : (history : List E) (stakes : List (Stake C E)) (id : ℕ) (entry : E) (claims left : Option C) (made : List E) → Once history stakes → get_elem? stakes id ≡ some (claims, made)
      → Once (history ++ entry ∷ []) (set stakes id (left, made ++ entry ∷ []))
  once-more history stakes id entry claims left made once at f =
      let t : total (λ (s : Stake C E). total f s.1) (set stakes id (left, made ++ entry ∷ [])) + total f made ≡ total (λ (s : Stake C E). total f s.1) stakes + total f (made ++ entry ∷ []) = total-set (λ (s : Stake C E). total f s.1) stakes id (claims, made) (left, made ++ entry ∷ []) at in
      let o : total f history ≡ total (λ (s : Stake C E). total f s.1) stakes = once f in
      let p = total-append f made (entry ∷ []) in
      let q = total-append f history (entry ∷ []) in
      omega arith

  -- a new seat made nothing
  pub once-cut : (history : List E) (stakes : List (Stake C E)) (id : ℕ) (claims left right : Option C) (made : List E) → Once history stakes → get_elem? stakes id ≡ some (claims, made)
      → Once history (set stakes id (left, made) ++ (right, []) ∷ [])
  once-cut history stakes id claims left right made once at f =
      let weight : Stake C E → ℕ = λ s. total f s.1 in
      let t : total weight (set stakes id (left, made)) + total f made ≡ total weight stakes + total f made = total-set weight stakes id (claims, made) (left, made) at in
      let a : total weight (set stakes id (left, made) ++ (right, []) ∷ []) ≡ total weight (set stakes id (left, made)) + (0 + 0) = total-append weight (set stakes id (left, made)) ((right, []) ∷ []) in
      let o : total f history ≡ total weight stakes = once f in
      omega arith

  -- what two seats made is what one made
  pub once-merge : (history : List E) (stakes : List (Stake C E)) (id other : ℕ) (mine theirs both : Option C) (made given : List E) → Once history stakes
      → ¬ (other ≡ id) → get_elem? stakes id ≡ some (mine, made) → get_elem? stakes other ≡ some (theirs, given)
      → Once history (set (set stakes id (both, made ++ given)) other (None, []))
  once-merge history stakes id other mine theirs both made given once apart at there f =
      let weight : Stake C E → ℕ = λ s. total f s.1 in
      let first : List (Stake C E) = set stakes id (both, made ++ given) in
      let t : total weight first + total f made ≡ total weight stakes + total f (made ++ given) = total-set weight stakes id (mine, made) (both, made ++ given) at in
      let u : total weight (set first other (None, [])) + total f given ≡ total weight first + 0 = total-set weight first other (theirs, given) (None, []) (set_else stakes id other (both, made ++ given) apart ∙ there) in
      let p : total f (made ++ given) ≡ total f made + total f given = total-append f made given in
      let o : total f history ≡ total weight stakes = once f in
      omega arith

  -- where each other seat has nothing, all seats made what this one made
  pub tally-alone : (f : E → ℕ) (stakes : List (Stake C E)) (id : ℕ) (claims : Option C) (made : List E) → get_elem? stakes id ≡ some (claims, made)
      → ((other : ℕ) (s : Stake C E) → other ≢ id → get_elem? stakes other ≡ some s → s ≡ (None, [])) → tally f stakes ≡ total f made
  tally-alone f stakes id claims made at alone = total-alone (λ (s : Stake C E). total f s.1) stakes id (claims, made) at (λ j s apart there. ap (λ (x : Stake C E). total f x.1) (alone j s apart there))

module _ {T C E : Type 0} {truth : T → T → List E → List (Stake C E) → Type 0} {opening value : T} {history : List E} {stakes : List (Stake C E)} {number : ℕ} {claims : C} {made : List E} where
  -- however entries are weighed, what a seat made weighs no more than the history
  pub own-seen : Stands truth opening value history stakes number claims made → (f : E → ℕ) → total f made ≤ total f history
  own-seen stands f =
      let o : total f history ≡ total (λ (s : Stake C E). total f s.1) stakes = stands.once f in
      let mine : total f made ≤ total (λ (s : Stake C E). total f s.1) stakes = total-at (λ (s : Stake C E). total f s.1) stakes number (Some claims, made) stands.here in
      omega arith
