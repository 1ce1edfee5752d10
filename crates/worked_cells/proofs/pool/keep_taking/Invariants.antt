use Rattle.std.proofs.Common.{◌≡◌, ◌≤◌, [], vec_capacity}
use Rattle.turn_cell.specs.Seats.{seat_view, seat_claims}
use Rattle.worked_cells.specs.Claiming.{ClaimsNothing}
use Rattle.worked_cells.proofs.pool.keep_taking.Given as goal

-- the seat claims nothing between two rounds
abbrev pub invariant-loop : goal.invariant-loop
invariant-loop g l = record {
  cell : (seat_view l.seat).cell ≡ (seat_view l.initial.seat).cell;
  share : (seat_view l.seat).share ≡ (seat_view l.initial.seat).share;
  claims : ClaimsNothing (seat_claims l.seat).facts;
  cap : 1 ≤ (seat_claims l.seat).facts.cap;
  held : l.held.items ≡ [];
  room : 1 ≤ vec_capacity l.held;
}
