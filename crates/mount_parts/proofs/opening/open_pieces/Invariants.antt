use Rattle.std.proofs.Common.{◌≡◌, ◌+◌, ◌≤◌, All, length, map}
use Rattle.std.specs.Vec.Iter.{into_iter_items}
use Rattle.crossbeam_utils.specs.Padded.{padded_value}
use Rattle.turn_cell.specs.Seats.{cell_view, seat_claims, seat_view}
use Rattle.space_pool.specs.Seats.{pool_cell}
use Rattle.range_core.specs.ClaimsView.{first_claims}
use Rattle.mount_parts.proofs.Openings.{Opens}
use Rattle.mount_parts.proofs.opening.open_pieces.Given as goal

abbrev pub invariant-loop : goal.invariant-loop
invariant-loop l = record {
  opens : Opens l.geometry l.cookie (pool_cell l.pool).cell (into_iter_items l.initial.rest) (into_iter_items l.rest) (seat_view l.initial.keeper).share (seat_view l.keeper) (seat_claims l.keeper).facts (map (λ c. cell_view (padded_value c)) l.cells.items) (map seat_view l.seats.items);
  own : All (λ s. seat_claims s ≡ first_claims) l.seats.items;
  left : l.counter + length (into_iter_items l.rest) ≡ l.parts + 1;
  shares : length (into_iter_items l.rest) ≤ (seat_view l.keeper).share;
}
