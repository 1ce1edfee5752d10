use Rattle.std.proofs.Common.{◌≡◌, ◌+◌, ℕ, All, drop, map}
use Rattle.std.specs.Vec.Iter.{into_iter_items, into_iter_len}
use Rattle.turn_cell.specs.Seats.{seat_claims, seat_view}
use Rattle.space_pool.specs.Seats.{pool_cell}
use Rattle.mount_parts.specs.PoolEnds.{claimed, number_weight, shares}
use Rattle.mount_parts.proofs.pool_ending.join_seats.Given as goal

-- the shares and the claims of all are those of the seat that joined and of the seats that are left
abbrev pub invariant-loop : goal.invariant-loop
invariant-loop l = record {
  rest : into_iter_items l.rest ≡ drop l.counter (into_iter_items l.initial.rest);
  left : into_iter_len l.rest + l.counter ≡ into_iter_len l.initial.rest;
  cells : All (λ s. (seat_view s).cell ≡ (pool_cell l.fn.pool).cell) (into_iter_items l.rest);
  cell : (seat_view l.keeper).cell ≡ (pool_cell l.fn.pool).cell;
  share : (seat_view l.keeper).share + shares (map seat_view (into_iter_items l.rest)) ≡ (seat_view l.initial.keeper).share + shares (map seat_view (into_iter_items l.initial.rest));
  numbers : (f : ℕ → ℕ) → number_weight f (seat_claims l.keeper) + claimed f (map seat_claims (into_iter_items l.rest)) ≡ number_weight f (seat_claims l.initial.keeper) + claimed f (map seat_claims (into_iter_items l.initial.rest));
}
