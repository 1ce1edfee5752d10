use Rattle.std.proofs.Common.{◌≡◌, ◌+◌, ◌∷◌, [], length, map, ap, sym, ◌∙◌, subst, arith}
use Rattle.std.specs.Prelude.{slice_get}
use Rattle.std.specs.Vec.Iter.{into_iter_items}
use Rattle.std.proofs.lemmas.List.{length-append, length-map}
use Rattle.crossbeam_utils.specs.Padded.{padded_value}
use Rattle.turn_cell.specs.Seats.{cell_view, seat_claims, seat_view}
use Rattle.range_core.specs.declared.end.RangeEnd.{RangeEnd}
use Rattle.mount_parts.specs.Ends.{ClaimsNoBlocks, IsEnd, RangeEndView, range_end}
use Rattle.mount_parts.proofs.Fronts.{front-of, front-rest}
use Rattle.mount_parts.proofs.Places.{all-at, map-there, seen-alike}
use Rattle.mount_parts.proofs.StripeEnds.{EachEnds, ends-more}
use Rattle.mount_parts.proofs.stripes.close_ranges.Goals as goal

pub close_range-requires-clause-cell : goal.close_range-requires-clause-cell
close_range-requires-clause-cell c =
    let l = c.loop in
    let cells = into_iter_items c.into_iter-cells.result in
    let seats = into_iter_items c.into_iter-seats.result in
    let atc = front-of cells l.counter c.next_of-padded.result _ (sym l.invariant.cells ∙ c.next_of-padded.ensures.items) in
    let ats = front-of seats l.counter c.next_of-seat.result _ (sym l.invariant.seats ∙ c.next_of-seat.ensures.items) in
    let same : map (λ s. (seat_view s).cell) seats ≡ map (λ p. (cell_view (padded_value p)).cell) cells = ap (map (λ s. (seat_view s).cell)) c.into_iter-seats.ensures.rest ∙ c.requires.cells ∙ sym (ap (map (λ p. (cell_view (padded_value p)).cell)) c.into_iter-cells.ensures.rest) in
    seen-alike (λ s. (seat_view s).cell) (λ p. (cell_view (padded_value p)).cell) seats cells l.counter c.next_of-seat.result c.next_of-padded.result same ats atc ∙ ap (λ x. (cell_view x).cell) (sym c.into_inner-cell.ensures)

pub close_range-requires-clause-whole : goal.close_range-requires-clause-whole
close_range-requires-clause-whole c =
    let l = c.loop in
    let ats = front-of (into_iter_items c.into_iter-seats.result) l.counter c.next_of-seat.result _ (sym l.invariant.seats ∙ c.next_of-seat.ensures.items) in
    all-at (λ s. (seat_view s).share ≡ 9223372036854775808) c.args.seats.items l.counter c.next_of-seat.result c.requires.whole (ap (λ q. slice_get q l.counter) (sym c.into_iter-seats.ensures.rest) ∙ ats)

pub close_range-requires-clause-free : goal.close_range-requires-clause-free
close_range-requires-clause-free c =
    let l = c.loop in
    let ats = front-of (into_iter_items c.into_iter-seats.result) l.counter c.next_of-seat.result _ (sym l.invariant.seats ∙ c.next_of-seat.ensures.items) in
    all-at (λ s. ClaimsNoBlocks (seat_claims s)) c.args.seats.items l.counter c.next_of-seat.result c.requires.free (ap (λ q. slice_get q l.counter) (sym c.into_iter-seats.ensures.rest) ∙ ats)

pub loop-preserved : goal.loop-preserved
loop-preserved c =
    let l = c.loop in
    let cells = into_iter_items c.into_iter-cells.result in
    let seats = into_iter_items c.into_iter-seats.result in
    let padded = c.next_of-padded.result in
    let seat = c.next_of-seat.result in
    let frontc = sym l.invariant.cells ∙ c.next_of-padded.ensures.items in
    let fronts = sym l.invariant.seats ∙ c.next_of-seat.ensures.items in
    let end : RangeEnd = c.in_ok-end.end in
    let view : RangeEnd → RangeEndView = λ e. range_end e.extents e.blocks (seat_view e.seat) (seat_claims e.seat) in
    let is : IsEnd (cell_view c.into_inner-cell.result) (seat_view seat) (view end) = record { saw = c.in_ok-end.ensures.saw; ends = c.in_ok-end.ensures.ends; space = c.in_ok-end.ensures.space } in
    record {
      cells = front-rest cells l.counter padded _ frontc;
      cells_left = (let n = l.invariant.cells_left in let e = c.next_of-padded.ensures.len in omega arith);
      seats = front-rest seats l.counter seat _ fronts;
      seats_left = (let n = l.invariant.seats_left in let e = c.next_of-seat.ensures.len in omega arith);
      count = ap length c.in_ok-push.ensures.items ∙ length-append l.ends.items (end ∷ []) ∙ ap (λ n. n + 1) l.invariant.count;
      each = ends-more view (map (λ p. cell_view (padded_value p)) cells) (map seat_view seats) l.ends.items c.push.new.self.items l.counter (cell_view (padded_value padded)) (seat_view seat) end l.invariant.each (length-map l.ends.items view ∙ l.invariant.count)
          (map-there (λ p. cell_view (padded_value p)) cells l.counter padded (front-of cells l.counter padded _ frontc)) (map-there seat_view seats l.counter seat (front-of seats l.counter seat _ fronts))
          (subst (λ x. IsEnd (cell_view x) (seat_view seat) (view end)) c.into_inner-cell.ensures is) c.in_ok-push.ensures.items;
    }

pub returns : goal.returns
returns c =
    let l = c.loop in
    let view : RangeEnd → RangeEndView = λ e. range_end e.extents e.blocks (seat_view e.seat) (seat_claims e.seat) in
    let all : l.counter ≡ length c.args.cells.items = (let ok = c.args.cells.ok.0 in let past = c.loop-test.false in let most = l.auto.counter-end in let len = c.len-count.ensures in omega arith) in
    record {
      count = length-map l.ends.items view ∙ l.invariant.count ∙ all ∙ sym (length-map c.args.cells.items (λ p. cell_view (padded_value p)));
      each = subst (λ q. EachEnds (map (λ p. cell_view (padded_value p)) q) (map seat_view c.args.seats.items) (map view l.ends.items)) c.into_iter-cells.ensures.rest (subst (λ q. EachEnds (map (λ p. cell_view (padded_value p)) (into_iter_items c.into_iter-cells.result)) (map seat_view q) (map view l.ends.items)) c.into_iter-seats.ensures.rest l.invariant.each);
    }
