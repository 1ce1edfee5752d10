-- What each step makes of a seat's view, and what it tells.
use Rattle.std.specs.Prelude.{◌≡◌, ◌≢◌, ℕ, ◌+◌, ◌-◌, ◌<◌, ◌≤◌, List, [], ◌∷◌, ◌++◌, length, if◌then◌else◌, nat_lt, Option, Some, None, slice_set}
use Rattle.atomic_table.specs.Table.{Me}
use Rattle.turn_cell.specs.declared.view.View.{View}
use Rattle.turn_cell.specs.Stakes.{Stake, Begins}
use Rattle.turn_cell.specs.Laws.{Stands}
use Rattle.turn_cell.specs.Rule.{whole_share}
use Rattle.turn_cell.specs.Views.{longer}

-- the shorter of two lists, and the second where they are as long
abbrev pub shorter : {A : Type 0} → List A → List A → List A
shorter xs ys = if nat_lt (length xs) (length ys) then xs else ys

module _ {T C E : Type 0} where
  -- the first seat of a cell
  abbrev pub first_view : C → View T C E
  first_view claims = record { held = None; seen = []; made = []; claims = Some claims; share = whole_share; refused = []; told = [] }

  -- a seat that was joined away
  abbrev pub spent_view : View T C E
  spent_view = record { held = None; seen = []; made = []; claims = None; share = 0; refused = []; told = [] }

  -- after the gate was won with this value and this history
  abbrev pub won_view : T → List E → View T C E → View T C E
  won_view value history v = record v { held = Some value; seen = history }

  -- after the gate was found held, while the turn of the entry of this number ran
  abbrev pub refused_view : ℕ → ℕ → View T C E → View T C E
  refused_view word turn v = record v { refused = v.refused ++ (word, turn) ∷ [] }

  -- after the gate was freed and one entry made
  abbrev pub left_view : E → C → View T C E → View T C E
  left_view entry left v = record v { held = None; seen = v.seen ++ entry ∷ []; made = v.made ++ entry ∷ []; claims = Some left }

  -- after the lists were compared
  abbrev pub looked_view : View T C E → View T C E
  looked_view v = record v { told = [] }

  -- what is left of a seat that was split
  abbrev pub kept_view : ℕ → Option C → View T C E → View T C E
  kept_view share claims v = record v { claims = claims; share = v.share - share }

  -- the seat that a split makes
  abbrev pub new_view : ℕ → Option C → View T C E → View T C E
  new_view share claims v = record { held = None; seen = v.seen; made = []; claims = claims; share = share; refused = []; told = [] }

  -- a seat that took in another
  abbrev pub joined_view : Option C → View T C E → View T C E → View T C E
  joined_view claims v w = record v { seen = longer v.seen w.seen; made = v.made ++ w.made; claims = claims; share = v.share + w.share; told = shorter v.seen w.seen }

-- The seat holds no slot, no turn of its own runs, and it has these claims and a share
pub record IsIdle {T C E : Type 0} (me : Me (Option T) (View T C E)) (claims : C) : Type 0 where
  pub slots : me.1 ≡ []
  pub held : me.0.held ≡ None
  pub told : me.0.told ≡ []
  pub claims_are : me.0.claims ≡ Some claims
  pub share : 0 < me.0.share

-- The gate was won: the seat has the value, and has seen the whole history
pub record Won {T C E : Type 0} (truth : T → T → List E → List (Stake C E) → Type 0) (opening : T) (number : ℕ) (claims : C) (v : View T C E) (me : Me (Option T) (View T C E)) : Type 0 where
  pub value : T
  pub history : List E
  pub stakes : List (Stake C E)
  pub begins : Begins v.seen history
  pub stands : Stands truth opening value history stakes number claims v.made
  pub me_is : me ≡ (won_view value history v, (0, Some value) ∷ [])

-- The gate was held: a turn ran whose entry the seat has not seen, and it was noted
pub record Refused {T C E : Type 0} (v : View T C E) (word : ℕ) (me : Me (Option T) (View T C E)) : Type 0 where
  pub turn : ℕ
  pub unseen : length v.seen ≤ turn
  pub held : word ≡ 1
  pub me_is : me ≡ (refused_view word turn v, [])

-- What the compare and exchange at the gate tells: the gate was won, or the turn that held it was noted
pub record Tried {T C E : Type 0} (truth : T → T → List E → List (Stake C E) → Type 0) (opening : T) (number : ℕ) (claims : C) (v : View T C E) (word : ℕ) (me : Me (Option T) (View T C E)) : Type 0 where
  pub won : word ≡ 0 → Won truth opening number claims v me
  pub refused : word ≢ 0 → Refused v word me

-- What the swap that frees the gate tells: one entry was made
pub record Left {T C E : Type 0} (truth : T → T → List E → List (Stake C E) → Type 0) (does : T → List E → E → Type 0) (opening : T) (number : ℕ) (claims : C) (value : T) (left : C) (next : T) (v : View T C E) (me : Me (Option T) (View T C E)) : Type 0 where
  pub entry : E
  pub stakes : List (Stake C E)
  pub done : does opening v.seen entry
  pub stood : Stands truth opening value v.seen stakes number claims v.made
  pub stands : Stands truth opening next (v.seen ++ entry ∷ []) (slice_set stakes number (Some left, v.made ++ entry ∷ [])) number left (v.made ++ entry ∷ [])
  pub me_is : me ≡ (left_view entry left v, [])

-- What a look tells: what a joined seat had seen begins what this seat has seen, or the other way round
pub record Looked {T C E : Type 0} (v : View T C E) (me : Me (Option T) (View T C E)) : Type 0 where
  pub compared : length v.told ≤ length v.seen → Begins v.told v.seen
  pub me_is : me ≡ (looked_view v, [])
