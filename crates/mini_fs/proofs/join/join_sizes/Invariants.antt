use Rattle.std.proofs.Common.{◌≡◌, ◌+◌, ℕ, ◌<◌, Some, drop, map, vec_len}
use Rattle.std.specs.Prelude.{slice_get}
use Rattle.std.specs.Vec.Iter.{into_iter_items, into_iter_len}
use Rattle.turn_cell.specs.Seats.{seat_claims, seat_view}
use Rattle.mini_fs.specs.Joins.{BothBegin, joined_size_place}
use Rattle.mini_fs.specs.Places.{SizePlace, size_place}
use Rattle.mini_fs.proofs.Firsts.{joined_first}
use Rattle.mini_fs.proofs.join.join_sizes.Given as goal

-- the seats of the first so many stripes were joined
abbrev pub invariant-loop-i : goal.invariant-loop-i
invariant-loop-i l = record {
  seats : map (λ s. size_place (seat_view s) (seat_claims s)) l.seats.items ≡ joined_first joined_size_place l.i (map (λ s. size_place (seat_view s) (seat_claims s)) l.initial.seats.items) (map (λ s. size_place (seat_view s) (seat_claims s)) (into_iter_items l.initial.rest));
  rest : into_iter_items l.rest ≡ drop l.i (into_iter_items l.initial.rest);
  left : into_iter_len l.rest + l.i ≡ into_iter_len l.initial.rest;
  len : vec_len l.seats ≡ vec_len l.initial.seats;
  begins : (k : ℕ) (x y : SizePlace) → k < l.i → slice_get (map (λ s. size_place (seat_view s) (seat_claims s)) l.initial.seats.items) k ≡ Some x → slice_get (map (λ s. size_place (seat_view s) (seat_claims s)) (into_iter_items l.initial.rest)) k ≡ Some y → BothBegin x.seat y.seat;
}
