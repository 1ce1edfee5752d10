use Rattle.std.proofs.Common.{◌≡◌, ◌+◌, length}
use Rattle.turn_cell.specs.Seats.{seat_view, IsSeatOf}
use Rattle.worked_cells.proofs.turns.increments.Given as goal

abbrev pub invariant-loop : goal.invariant-loop
invariant-loop g l = record {
  cell : IsSeatOf l.cell l.seat;
  share : (seat_view l.seat).share ≡ (seat_view l.initial.seat).share;
  made : length (seat_view l.seat).made ≡ length (seat_view l.initial.seat).made + l.counter;
}
