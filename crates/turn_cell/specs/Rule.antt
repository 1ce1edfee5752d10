-- The rule of the table: what holds between any two steps.
use Rattle.std.specs.Prelude.{◌≡◌, ℕ, zero, suc, ◌+◌, ◌^◌, ◌<◌, ◌≤◌, List, [], ◌∷◌, All, length, map, Option, Some, None}
use mathlib.Core.Option.{some, none}
use lib.ListN.{get_elem?}
use Rattle.atomic_table.specs.Table.{State}
use Rattle.turn_cell.specs.declared.view.View.{View}
use Rattle.turn_cell.specs.Stakes.{Stake, total, Begins, Once}
use Rattle.turn_cell.specs.Views.{WasHeld}

-- the whole share of a cell
abbrev pub whole_share : ℕ
whole_share = 2 ^ 63

module _ {T : Type 0} where
  -- 1 for a seat whose turn runs
  abbrev pub turning : Option T → ℕ
  turning (Some value) = 1
  turning None = 0

  -- what the slot has at home while `gate` turns run: the value where none does
  abbrev pub at_home : ℕ → T → mathlib.Core.Option.Option (Option T)
  at_home zero value = some (Some value)
  at_home (suc gate) value = none

module _ {T C E : Type 0} where
  abbrev pub stake_of : View T C E → Stake C E
  stake_of v = (v.claims, v.made)

  abbrev pub stakes_of : List (View T C E) → List (Stake C E)
  stakes_of views = map stake_of views

  abbrev pub turn_of : View T C E → ℕ
  turn_of v = turning v.held

  abbrev pub share_of : View T C E → ℕ
  share_of v = v.share

-- What the rule says of one seat: what it has seen begins the history, without a share it claims nothing, made nothing and has no turn, and while its turn runs it has the value and has seen all
pub record Fits {T C E : Type 0} (history : List E) (value : T) (v : View T C E) : Type 0 where
  pub seen : Begins v.seen history
  pub told : Begins v.told history
  pub spent : v.share ≡ 0 → (v.claims ≡ None) × (v.made ≡ []) × (v.held ≡ None)
  pub held : (x : T) → v.held ≡ Some x → (x ≡ value) × (v.seen ≡ history)

-- Some seat with a share has seen the whole history
pub record IsKnown {T C E : Type 0} (history : List E) (views : List (View T C E)) : Type 0 where
  pub number : ℕ
  pub view : View T C E
  pub here : get_elem? views number ≡ some view
  pub share : 0 < view.share
  pub all : view.seen ≡ history

-- The gate counts the turns that run, of which there is at most one, and the value is home while none does; the shares add up; each entry was made once; each refused word was found while a turn held the gate, which made its entry since or runs still; and the truth holds of the value as the last turn left it
pub record Ruled {T C E : Type 0} (truth : T → T → List E → List (Stake C E) → Type 0) (opening : T) (s : State (Option T) (View T C E)) : Type 0 where
  pub history : List E
  pub value : T
  pub gate : s.words ≡ total turn_of s.views ∷ []
  pub one : total turn_of s.views ≤ 1
  pub home : s.homes ≡ at_home (total turn_of s.views) value ∷ []
  pub shares : total share_of s.views ≡ whole_share
  pub fits : (number : ℕ) (v : View T C E) → get_elem? s.views number ≡ some v → Fits history value v
  pub known : IsKnown history s.views
  pub once : Once history (stakes_of s.views)
  pub waited : (number : ℕ) (v : View T C E) → get_elem? s.views number ≡ some v → All (WasHeld (length history + total turn_of s.views)) v.refused
  pub holds : truth opening value history (stakes_of s.views)
