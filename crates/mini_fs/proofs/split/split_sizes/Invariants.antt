use Rattle.std.proofs.Common.{◌≡◌, map, take, vec_len, vec_capacity}
use Rattle.turn_cell.specs.Seats.{seat_claims, seat_view}
use Rattle.mini_fs.specs.Places.{given_size_place, kept_size_place, size_place}
use Rattle.mini_fs.proofs.Firsts.{on_first}
use Rattle.mini_fs.proofs.split.split_sizes.Given as goal

-- the seats of the first so many stripes were split
abbrev pub invariant-loop-i : goal.invariant-loop-i
invariant-loop-i l = record {
  seats : map (λ s. size_place (seat_view s) (seat_claims s)) l.seats.items ≡ on_first kept_size_place l.i (map (λ s. size_place (seat_view s) (seat_claims s)) l.initial.seats.items);
  made : map (λ s. size_place (seat_view s) (seat_claims s)) l.made.items ≡ take l.i (map given_size_place (map (λ s. size_place (seat_view s) (seat_claims s)) l.initial.seats.items));
  len : vec_len l.seats ≡ vec_len l.initial.seats;
  count : vec_len l.made ≡ l.i;
  capacity : vec_capacity l.made ≡ vec_capacity l.initial.made;
}
