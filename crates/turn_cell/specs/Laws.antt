-- What a chronicle's changes, cuts and merges keep, for every history and every set of seats.
use Rattle.std.specs.Prelude.{◌≡◌, ℕ, List, [], ◌∷◌, ◌++◌, Some, None, slice_set}
use mathlib.Core.Option.{some}
use lib.ListN.{get_elem?}
use Rattle.turn_cell.specs.Stakes.{Stake, Begins, Once}

-- A seat stands at its number with its claims and its entries, each entry of the history was made once, and the truth holds
pub record Stands {T C E : Type 0} (truth : T → T → List E → List (Stake C E) → Type 0) (opening value : T) (history : List E) (stakes : List (Stake C E)) (number : ℕ) (claims : C) (made : List E) : Type 0 where
  pub here : get_elem? stakes number ≡ some (Some claims, made)
  pub once : Once history stakes
  pub holds : truth opening value history stakes

-- A turn may begin: what the seat had seen begins the history, the seat stands in it, and the change is ready
pub record Standing {T C E : Type 0} (truth : T → T → List E → List (Stake C E) → Type 0) (ready : T → List E → C → Type 0) (value : T) (claims : C) : Type 0 where
  pub opening : T
  pub seen : List E
  pub history : List E
  pub stakes : List (Stake C E)
  pub number : ℕ
  pub made : List E
  pub begins : Begins seen history
  pub stands : Stands truth opening value history stakes number claims made
  pub is_ready : ready opening seen claims

-- One entry was added to the history and to what this seat made, and the truth holds of the next value and of the claims that are left
pub record Advanced {T C E : Type 0} (truth : T → T → List E → List (Stake C E) → Type 0) (does : T → List E → E → Type 0) (opening next : T) (history : List E) (stakes : List (Stake C E)) (number : ℕ) (left : C) (made : List E) : Type 0 where
  pub entry : E
  pub done : does opening history entry
  pub holds : truth opening next (history ++ entry ∷ []) (slice_set stakes number (Some left, made ++ entry ∷ []))

module _ {T C E : Type 0} (truth : T → T → List E → List (Stake C E) → Type 0) where
  -- wherever the seat stands, the change from `value` and `claims` to `next` and `left` adds one entry and keeps the truth
  abbrev pub KeepsTurn : (T → List E → C → Type 0) → (T → List E → E → Type 0) → T → C → T → C → Type 0
  KeepsTurn ready does value claims next left = (s : Standing truth ready value claims) → Advanced truth does s.opening next s.history s.stakes s.number left s.made

  -- wherever the seat stands, its claims may be cut in two, and a new seat that made nothing has the second part
  abbrev pub KeepsCut : C → C → C → Type 0
  KeepsCut claims left right = (opening value : T) (history : List E) (stakes : List (Stake C E)) (number : ℕ) (made : List E)
      → Stands truth opening value history stakes number claims made
      → truth opening value history (slice_set stakes number (Some left, made) ++ (Some right, []) ∷ [])

  -- wherever two seats stand, the first may take the claims and the entries of the second, which is left with nothing
  abbrev pub KeepsMerge : C → C → C → Type 0
  KeepsMerge mine theirs both = (opening value : T) (history : List E) (stakes : List (Stake C E)) (number other : ℕ) (made given : List E)
      → Stands truth opening value history stakes number mine made
      → ¬ (other ≡ number)
      → get_elem? stakes other ≡ some (Some theirs, given)
      → truth opening value history (slice_set (slice_set stakes number (Some both, made ++ given)) other (None, []))
