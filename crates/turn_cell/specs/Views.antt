-- What contracts see of a cell and of a seat, and what its calls tell of them.
use Rattle.std.specs.Prelude.{◌≡◌, ◌≢◌, ℕ, ◌+◌, ◌-◌, ◌<◌, ◌≤◌, List, [], ◌∷◌, ◌++◌, All, length, if◌then◌else◌, nat_lt, None}
use mathlib.Core.Option.{some}
use lib.ListN.{get_elem?}
use Rattle.std.specs.Prelude.{slice_set, Some}
use Rattle.atomic_table.specs.Seated.{TableId}
use Rattle.turn_cell.specs.Stakes.{Stake, total}
use Rattle.turn_cell.specs.Laws.{Stands}

-- which cell it is, and the value that it was opened with
pub record CellView (T : Type 0) : Type 0 where
  pub cell : TableId
  pub opening : T

-- the seat's cell, the beginning of the history that it has seen, the entries that it made, its share, and the words that its refused compare and exchanges found, each with the number in the history of the entry whose turn held the gate then
pub record SeatView (E : Type 0) : Type 0 where
  pub cell : TableId
  pub seen : List E
  pub made : List E
  pub share : ℕ
  pub refused : List (ℕ × ℕ)

-- the longer of two lists, and the first where they are as long
abbrev pub longer : {A : Type 0} → List A → List A → List A
longer xs ys = if nat_lt (length xs) (length ys) then ys else xs

module _ {E : Type 0} where
  -- the one seat of a new cell
  abbrev pub first_seat : TableId → ℕ → SeatView E
  first_seat cell share = record { cell = cell; seen = []; made = []; share = share; refused = [] }

  -- the seat, after one more compare and exchange was refused and found this word, while the turn of the entry of this number held the gate
  abbrev pub refused_once : SeatView E → ℕ → ℕ → SeatView E
  refused_once s word turn = record s { refused = s.refused ++ (word, turn) ∷ [] }

  -- the seat that is left after a split, and the new one, which has seen as much and made nothing
  abbrev pub kept_part : SeatView E → ℕ → SeatView E
  kept_part s share = record s { share = s.share - share }

  abbrev pub new_part : SeatView E → ℕ → SeatView E
  new_part s share = record s { made = []; share = share; refused = [] }

  -- both seats as one: the longer of the two lists, the entries and the shares of both, and the refused words of the first
  abbrev pub joined : SeatView E → SeatView E → SeatView E
  joined s t = record s { seen = longer s.seen t.seen; made = s.made ++ t.made; share = s.share + t.share }

-- The gate was found held, by this word: it was held by a turn whose entry the seat has not seen, and nothing but that note is new
pub record FoundHeld {E : Type 0} (before : SeatView E) (word : ℕ) (after : SeatView E) : Type 0 where
  pub turn : ℕ
  pub unseen : length before.seen ≤ turn
  pub held : word ≡ 1
  pub seat_is : after ≡ refused_once before word turn

-- a turn held the gate by this word, and the number of its entry is below this one
abbrev pub WasHeld : ℕ → ℕ × ℕ → Type 0
WasHeld below note = (note.0 ≡ 1) × (note.1 < below)

-- One turn, from the seat `before` to the seat `after`: others had made entries that this seat had not seen, and then it made one. The change did it to the value, the truth held before and holds after, and however entries are weighed, what the seat made weighs no more than what it has seen
pub record Turned {T C E : Type 0} (truth : T → T → List E → List (Stake C E) → Type 0) (does : List E → T → T → E → Type 0) (opening : T) (claims left : C) (before after : SeatView E) : Type 0 where
  pub others : List E
  pub entry : E
  pub value : T
  pub next : T
  pub number : ℕ
  pub stakes : List (Stake C E)
  pub seen_is : after.seen ≡ (before.seen ++ others) ++ entry ∷ []
  pub made_is : after.made ≡ before.made ++ entry ∷ []
  pub done : does (before.seen ++ others) value next entry
  pub stood : Stands truth opening value (before.seen ++ others) stakes number claims before.made
  pub stands : Stands truth opening next after.seen (slice_set stakes number (Some left, after.made)) number left after.made
  pub own : (f : E → ℕ) → total f after.made ≤ total f after.seen

-- The whole of a cell that is closed: the seat has seen the whole history and made all of it, nobody else claims anything, and each time that it found the gate held, a turn of that history held it
pub record Closed {T C E : Type 0} (truth : T → T → List E → List (Stake C E) → Type 0) (opening value : T) (seat : SeatView E) (claims : C) : Type 0 where
  pub number : ℕ
  pub stakes : List (Stake C E)
  pub stands : Stands truth opening value seat.seen stakes number claims seat.made
  pub alone : (other : ℕ) (s : Stake C E) → other ≢ number → get_elem? stakes other ≡ some s → s ≡ (None, [])
  pub once : (f : E → ℕ) → total f seat.seen ≡ total f seat.made
  pub refused : All (WasHeld (length seat.seen)) seat.refused
