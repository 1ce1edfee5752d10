use Rattle.std.proofs.Common.{◌≡◌, ◌≤◌, [], vec_capacity}
use Rattle.turn_cell.specs.Seats.{seat_view, seat_claims}
use Rattle.worked_cells.specs.Claiming.{Holds}
use Rattle.worked_cells.proofs.pool.give_each.Given as goal

-- what is held is what the seat claims
abbrev pub invariant-loop : goal.invariant-loop
invariant-loop g l = record {
  cell : (seat_view l.seat).cell ≡ (seat_view l.initial.seat).cell;
  share : (seat_view l.seat).share ≡ (seat_view l.initial.seat).share;
  holds : Holds l.held.items (seat_claims l.seat).facts;
  one : l.one.items ≡ [];
  room : 1 ≤ vec_capacity l.one;
}
