-- What contracts see of the types of this crate.
use Rattle.std.specs.Prelude.{◌≡◌, Option}
use Rattle.atomic_table.specs.declared.shared.Seat.{Seat}
use Rattle.turn_cell.specs.declared.chronicle.Chronicle.{Ghosts}
use Rattle.turn_cell.specs.declared.seat.TurnSeat.{TurnSeat}
use Rattle.turn_cell.specs.declared.cell.TurnCell.{TurnCell}
use Rattle.turn_cell.specs.declared.view.View.{View}
use Rattle.turn_cell.specs.Views.{SeatView, CellView}

module _ {T C E : Type 0} where
  abbrev pub place_view : Seat (Option T) (View T C E) → SeatView E
  place_view p = record { cell = p.table_id; seen = p.me.0.seen; made = p.me.0.made; share = p.me.0.share; refused = p.me.0.refused }

  -- what contracts see of a cell
  abbrev pub cell_view : TurnCell T C E → CellView T
  cell_view c = record { cell = c.table.shared.table_id; opening = c.table.shared.key.value.value }

  module _ {g : Ghosts T C E} where
    -- what contracts see of a seat, beside its claims
    abbrev pub seat_view : TurnSeat T C E g → SeatView E
    seat_view s = place_view s.place

    -- what the seat claims
    abbrev pub seat_claims : TurnSeat T C E g → C
    seat_claims s = s.claims

    -- the seat is of this cell
    abbrev pub IsSeatOf : TurnCell T C E → TurnSeat T C E g → Type 0
    IsSeatOf c s = (seat_view s).cell ≡ (cell_view c).cell
