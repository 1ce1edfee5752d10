use Rattle.std.proofs.Common.{◌≡◌, ◌+◌, drop, length, map}
use Rattle.std.specs.Vec.Iter.{into_iter_items, into_iter_len}
use Rattle.crossbeam_utils.specs.Padded.{padded_value}
use Rattle.turn_cell.specs.Seats.{cell_view, seat_view}
use Rattle.mount_parts.specs.SizeEnds.{IsSizeEnd}
use Rattle.mount_parts.proofs.StripeEnds.{Each}
use Rattle.mount_parts.proofs.size_ending.close_sizes.Given as goal

-- the first so many sizes were taken apart
abbrev pub invariant-loop : goal.invariant-loop
invariant-loop l = record {
  cells : into_iter_items l.cells ≡ drop l.counter (into_iter_items l.initial.cells);
  cells_left : into_iter_len l.cells + l.counter ≡ into_iter_len l.initial.cells;
  seats : into_iter_items l.seats ≡ drop l.counter (into_iter_items l.initial.seats);
  seats_left : into_iter_len l.seats + l.counter ≡ into_iter_len l.initial.seats;
  count : length l.ends.items ≡ l.counter;
  each : Each IsSizeEnd (map (λ c. cell_view (padded_value c)) (into_iter_items l.initial.cells)) (map seat_view (into_iter_items l.initial.seats)) l.ends.items;
}
