use Rattle.std.proofs.Common.{◌≡◌}
use Rattle.turn_cell.specs.Seats.{seat_view}
use Rattle.turn_cell.specs.Stakes.{Begins}
use Rattle.turn_cell.proofs.cell.TurnCell.turn.Given as goal

-- nothing changes before the gate is won, but the refused words
abbrev pub invariant-loop : goal.invariant-loop
invariant-loop g l = record {
  cell : (seat_view l.seat).cell ≡ (seat_view l.initial.seat).cell;
  seen : (seat_view l.seat).seen ≡ (seat_view l.initial.seat).seen;
  made : (seat_view l.seat).made ≡ (seat_view l.initial.seat).made;
  share : (seat_view l.seat).share ≡ (seat_view l.initial.seat).share;
  refused : Begins (seat_view l.initial.seat).refused (seat_view l.seat).refused;
  claims : l.seat.claims ≡ l.initial.seat.claims;
  change : l.change ≡ l.initial.change;
}
