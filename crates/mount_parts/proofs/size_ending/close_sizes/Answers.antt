use Rattle.std.proofs.Common.{◌≡◌, ◌+◌, ◌∷◌, [], length, map, ap, sym, ◌∙◌, subst, arith}
use Rattle.std.specs.Prelude.{slice_get}
use Rattle.std.specs.Vec.Iter.{into_iter_items}
use Rattle.std.proofs.lemmas.List.{length-append, length-map}
use Rattle.crossbeam_utils.specs.Padded.{padded_value}
use Rattle.turn_cell.specs.Seats.{cell_view, seat_view}
use Rattle.mount_parts.specs.SizeEnds.{IsSizeEnd}
use Rattle.mount_parts.proofs.Fronts.{front-of, front-rest}
use Rattle.mount_parts.proofs.Places.{all-at, map-there, seen-alike}
use Rattle.mount_parts.proofs.StripeEnds.{Each, each-more}
use Rattle.mount_parts.proofs.size_ending.close_sizes.Goals as goal

pub close_size-end-requires-clause-cell : goal.close_size-end-requires-clause-cell
close_size-end-requires-clause-cell c =
    let l = c.loop in
    let cells = into_iter_items c.into_iter-cells.result in
    let seats = into_iter_items c.into_iter-seats.result in
    let atc = front-of cells l.counter c.next_of-padded.result _ (sym l.invariant.cells ∙ c.next_of-padded.ensures.items) in
    let ats = front-of seats l.counter c.next_of-seat.result _ (sym l.invariant.seats ∙ c.next_of-seat.ensures.items) in
    let same : map (λ s. (seat_view s).cell) seats ≡ map (λ p. (cell_view (padded_value p)).cell) cells = ap (map (λ s. (seat_view s).cell)) c.into_iter-seats.ensures.rest ∙ c.requires.cells ∙ sym (ap (map (λ p. (cell_view (padded_value p)).cell)) c.into_iter-cells.ensures.rest) in
    seen-alike (λ s. (seat_view s).cell) (λ p. (cell_view (padded_value p)).cell) seats cells l.counter c.next_of-seat.result c.next_of-padded.result same ats atc ∙ ap (λ x. (cell_view x).cell) (sym c.into_inner-cell.ensures)

pub close_size-end-requires-clause-whole : goal.close_size-end-requires-clause-whole
close_size-end-requires-clause-whole c =
    let l = c.loop in
    let ats = front-of (into_iter_items c.into_iter-seats.result) l.counter c.next_of-seat.result _ (sym l.invariant.seats ∙ c.next_of-seat.ensures.items) in
    all-at (λ s. (seat_view s).share ≡ 9223372036854775808) c.args.seats.items l.counter c.next_of-seat.result c.requires.whole (ap (λ q. slice_get q l.counter) (sym c.into_iter-seats.ensures.rest) ∙ ats)

pub loop-preserved : goal.loop-preserved
loop-preserved c =
    let l = c.loop in
    let cells = into_iter_items c.into_iter-cells.result in
    let seats = into_iter_items c.into_iter-seats.result in
    let padded = c.next_of-padded.result in
    let seat = c.next_of-seat.result in
    let frontc = sym l.invariant.cells ∙ c.next_of-padded.ensures.items in
    let fronts = sym l.invariant.seats ∙ c.next_of-seat.ensures.items in
    let end = c.close_size-end.result in
    record {
      cells = front-rest cells l.counter padded _ frontc;
      cells_left = (let n = l.invariant.cells_left in let e = c.next_of-padded.ensures.len in omega arith);
      seats = front-rest seats l.counter seat _ fronts;
      seats_left = (let n = l.invariant.seats_left in let e = c.next_of-seat.ensures.len in omega arith);
      count = ap length c.in_ok-push.ensures.items ∙ length-append l.ends.items (end ∷ []) ∙ ap (λ n. n + 1) l.invariant.count;
      each = subst (Each IsSizeEnd (map (λ p. cell_view (padded_value p)) cells) (map seat_view seats)) (sym c.in_ok-push.ensures.items)
          (each-more IsSizeEnd (map (λ p. cell_view (padded_value p)) cells) (map seat_view seats) l.ends.items l.counter (cell_view (padded_value padded)) (seat_view seat) end l.invariant.each l.invariant.count
          (map-there (λ p. cell_view (padded_value p)) cells l.counter padded (front-of cells l.counter padded _ frontc)) (map-there seat_view seats l.counter seat (front-of seats l.counter seat _ fronts))
          (subst (λ x. IsSizeEnd (cell_view x) (seat_view seat) end) c.into_inner-cell.ensures c.close_size-end.ensures));
    }

pub returns : goal.returns
returns c =
    let l = c.loop in
    let all : l.counter ≡ length c.args.cells.items = (let ok = c.args.cells.ok.0 in let past = c.loop-test.false in let most = l.auto.counter-end in let len = c.len-count.ensures in omega arith) in
    record {
      count = l.invariant.count ∙ all ∙ sym (length-map c.args.cells.items (λ p. cell_view (padded_value p)));
      each = subst (λ q. Each IsSizeEnd (map (λ p. cell_view (padded_value p)) q) (map seat_view c.args.seats.items) l.ends.items) c.into_iter-cells.ensures.rest (subst (λ q. Each IsSizeEnd (map (λ p. cell_view (padded_value p)) (into_iter_items c.into_iter-cells.result)) (map seat_view q) l.ends.items) c.into_iter-seats.ensures.rest l.invariant.each);
    }
