use Rattle.std.proofs.Common.{◌≡◌, ◌+◌, suc, ◌∷◌, [], All, length, map, ap, refl, sym, ◌∙◌, subst, arith}
use Rattle.std.specs.Prelude.{slice_get}
use Rattle.std.specs.Vec.Iter.{into_iter_items}
use Rattle.turn_cell.specs.Seats.{seat_claims, seat_view}
use Rattle.turn_cell.specs.Views.{SeatView}
use Rattle.turn_cell.specs.Stakes.{total}
use Rattle.turn_cell.proofs.Sums.{total-append}
use Rattle.space_pool.specs.Claims.{ClaimsView}
use Rattle.space_pool.specs.Seats.{pool_cell}
use Rattle.space_pool.specs.declared.entry.PoolEntry.{PoolEntry}
use Rattle.mount_parts.specs.PoolEnds.{claimed, number_weight, shares}
use Rattle.mount_parts.proofs.Fronts.{front-rest}
use Rattle.mount_parts.proofs.Places.{all-at}
use Rattle.mount_parts.proofs.PoolEnds.{drop-all}
use Rattle.mount_parts.proofs.pool_ending.join_seats.Goals as goal

pub loop-init : goal.loop-init
loop-init c = record {
  rest = refl;
  left = omega arith;
  cells = subst (All (λ s. (seat_view s).cell ≡ (pool_cell c.args.pool.now).cell)) (sym c.into_iter-rest.ensures.rest) c.requires.seats;
  cell = c.requires.keeper;
  share = refl;
  numbers = λ f. refl;
}

pub join-requires-clause-into : goal.join-requires-clause-into
join-requires-clause-into c = c.loop.invariant.cell

pub join-requires-clause-from : goal.join-requires-clause-from
join-requires-clause-from c =
    let l = c.loop in
    all-at (λ s. (seat_view s).cell ≡ (pool_cell c.args.pool.now).cell) (into_iter_items l.rest) 0 c.next_of-seat.result l.invariant.cells (ap (λ q. slice_get q 0) c.next_of-seat.ensures.items)

pub loop-preserved : goal.loop-preserved
loop-preserved c =
    let l = c.loop in
    let seat = c.next_of-seat.result in
    let items = c.next_of-seat.ensures.items in
    let all : All (λ s. (seat_view s).cell ≡ (pool_cell c.args.pool.now).cell) (seat ∷ into_iter_items c.next_of-seat.new.rest) = subst (All (λ s. (seat_view s).cell ≡ (pool_cell c.args.pool.now).cell)) items l.invariant.cells in
    let kept : (seat_view c.join.new.into).share ≡ (seat_view l.keeper).share + (seat_view seat).share = ap (λ (s : SeatView PoolEntry). s.share) c.join.ensures.seat in
    let some : shares (map seat_view (into_iter_items l.rest)) ≡ (seat_view seat).share + shares (map seat_view (into_iter_items c.next_of-seat.new.rest)) = ap (λ q. shares (map seat_view q)) items in
    record {
      rest = front-rest (into_iter_items c.into_iter-rest.result) l.counter seat _ (sym l.invariant.rest ∙ items);
      left = (let n = l.invariant.left in let e = c.next_of-seat.ensures.len in omega arith);
      cells = λ i d h. all (suc i) d (omega (arith, h));
      cell = ap (λ (s : SeatView PoolEntry). s.cell) c.join.ensures.seat ∙ l.invariant.cell;
      share = (let s = l.invariant.share in omega arith);
      numbers = λ f.
          let n = l.invariant.numbers f in
          let both : number_weight f (seat_claims c.join.new.into) ≡ number_weight f (seat_claims l.keeper) + number_weight f (seat_claims seat) = ap (λ (x : ClaimsView). total f x.numbers) c.join.ensures.claims ∙ total-append f (seat_claims l.keeper).facts.numbers (seat_claims seat).facts.numbers in
          let more : claimed f (map seat_claims (into_iter_items l.rest)) ≡ number_weight f (seat_claims seat) + claimed f (map seat_claims (into_iter_items c.next_of-seat.new.rest)) = ap (λ q. claimed f (map seat_claims q)) items in
          omega arith;
    }

pub returns-clause-cell : goal.returns-clause-cell
returns-clause-cell c = c.loop.invariant.cell

pub returns-clause-share : goal.returns-clause-share
returns-clause-share c =
    let l = c.loop in
    let from = c.into_iter-rest.ensures.rest in
    let many : length (into_iter_items c.into_iter-rest.result) ≡ length c.args.seats.items = ap length from in
    let none : into_iter_items l.rest ≡ [] = l.invariant.rest ∙ drop-all (into_iter_items c.into_iter-rest.result) l.counter (let ok = c.args.seats.ok.0 in let past = c.loop-test.false in let most = l.auto.counter-end in let len = c.len-count.ensures in omega arith) in
    let past : shares (map seat_view (into_iter_items l.rest)) ≡ 0 = ap (λ q. shares (map seat_view q)) none in
    let all : shares (map seat_view (into_iter_items c.into_iter-rest.result)) ≡ shares (map seat_view c.args.seats.items) = ap (λ q. shares (map seat_view q)) from in
    let s = l.invariant.share in
    omega arith

pub returns-clause-numbers : goal.returns-clause-numbers
returns-clause-numbers c f =
    let l = c.loop in
    let from = c.into_iter-rest.ensures.rest in
    let many : length (into_iter_items c.into_iter-rest.result) ≡ length c.args.seats.items = ap length from in
    let none : into_iter_items l.rest ≡ [] = l.invariant.rest ∙ drop-all (into_iter_items c.into_iter-rest.result) l.counter (let ok = c.args.seats.ok.0 in let past = c.loop-test.false in let most = l.auto.counter-end in let len = c.len-count.ensures in omega arith) in
    let past : claimed f (map seat_claims (into_iter_items l.rest)) ≡ 0 = ap (λ q. claimed f (map seat_claims q)) none in
    let all : claimed f (map seat_claims (into_iter_items c.into_iter-rest.result)) ≡ claimed f (map seat_claims c.args.seats.items) = ap (λ q. claimed f (map seat_claims q)) from in
    let n = l.invariant.numbers f in
    omega arith
