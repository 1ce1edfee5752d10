use Rattle.std.proofs.Common.{◌≡◌, List, [], ◌∷◌, ◌++◌, map, length, ap, sym, subst, ◌∙◌, arith}
use Rattle.std.specs.Prelude.{All}
use Rattle.std.specs.Vec.Iter.{into_iter_items}
use Rattle.std.proofs.lemmas.List.Elements.{All-head, All-nil, All-push}
use Rattle.std.proofs.lemmas.Simd.{map-map}
use Rattle.crossbeam_utils.specs.Padded.{padded_value}
use Rattle.turn_cell.specs.Seats.{cell_view, seat_claims, seat_view}
use Rattle.turn_cell.specs.Views.{CellView, first_seat}
use Rattle.turn_cell.proofs.Sums.{map-append}
use Rattle.space_pool.specs.Seats.{pool_cell}
use Rattle.range_core.specs.ClaimsView.{first_claims}
use Rattle.range_core.specs.RangeView.{RangeView}
use Rattle.mount_parts.specs.Pieces.{AreOpened, IsOpenedWith, IsPiece, is_first_at}
use Rattle.mount_parts.specs.declared.piece.Piece.{Piece}
use Rattle.mount_parts.proofs.Openings.{StillOpens, opens-first, opens-last, opens-next, still-distinct, still-last, still-part, still-whole}
use Rattle.mount_parts.proofs.opening.open_pieces.Goals as goal

pub loop-init : goal.loop-init
loop-init c =
    let items = c.into_iter-rest.ensures.rest in
    record {
      opens = opens-first c.args.geometry c.args.cookie (pool_cell c.args.pool.now).cell c.args.pieces.items (into_iter_items c.into_iter-rest.result) (seat_view c.args.keeper) (seat_claims c.args.keeper).facts _ _ items
          c.requires.pieces c.requires.whole c.requires.distinct c.requires.keeps c.requires.seat (ap (map (λ k. cell_view (padded_value k))) c.new-cells.ensures.items) (ap (map seat_view) c.new-seats.ensures.items);
      own = subst (All (λ s. seat_claims s ≡ first_claims)) (sym c.new-seats.ensures.items) (All-nil (λ s. seat_claims s ≡ first_claims));
      left = (let e = ap length items in let n = c.requires.some in let m = c.len-parts.ensures in omega arith);
      shares = (let e = ap length items in let n = c.requires.share in omega arith);
    }

pub open_part-requires-clause-piece : goal.open_part-requires-clause-piece
open_part-requires-clause-piece c =
    All-head IsPiece c.next_of-piece.result (into_iter_items c.next_of-piece.new.rest) (subst (All IsPiece) c.next_of-piece.ensures.items c.loop.invariant.opens.still.pieces)

pub open_part-requires-clause-whole : goal.open_part-requires-clause-whole
open_part-requires-clause-whole c =
    let S : List Piece → Type 0 = λ q. StillOpens c.args.geometry.block_size q (seat_claims c.loop.keeper).facts in
    still-whole c.args.geometry.block_size c.next_of-piece.result (into_iter_items c.next_of-piece.new.rest) (seat_claims c.loop.keeper).facts (subst S c.next_of-piece.ensures.items c.loop.invariant.opens.still)

pub open_part-requires-clause-distinct : goal.open_part-requires-clause-distinct
open_part-requires-clause-distinct c =
    let S : List Piece → Type 0 = λ q. StillOpens c.args.geometry.block_size q (seat_claims c.loop.keeper).facts in
    still-distinct c.args.geometry.block_size c.next_of-piece.result (into_iter_items c.next_of-piece.new.rest) (seat_claims c.loop.keeper).facts (subst S c.next_of-piece.ensures.items c.loop.invariant.opens.still)

pub open_part-requires-clause-share : goal.open_part-requires-clause-share
open_part-requires-clause-share c =
    let i = c.loop.invariant in
    let n = i.left in
    let m = i.shares in
    let t = c.loop-test.true in
    omega arith

pub open_part-requires-clause-part : goal.open_part-requires-clause-part
open_part-requires-clause-part c =
    let S : List Piece → Type 0 = λ q. StillOpens c.args.geometry.block_size q (seat_claims c.loop.keeper).facts in
    still-part c.args.geometry.block_size c.next_of-piece.result (into_iter_items c.next_of-piece.new.rest) (seat_claims c.loop.keeper).facts (subst S c.next_of-piece.ensures.items c.loop.invariant.opens.still)

pub loop-preserved : goal.loop-preserved
loop-preserved c =
    let l = c.loop in
    let cell = c.in_ok-cell.cell in
    let seat = c.in_ok-cell.seat in
    let padded = c.new.result in
    let grown : map (λ k. cell_view (padded_value k)) (l.cells.items) ++ cell_view cell ∷ [] ≡ map (λ k. cell_view (padded_value k)) (l.cells.items) ++ cell_view (padded_value padded) ∷ [] =
    ap (λ v. map (λ k. cell_view (padded_value k)) (l.cells.items) ++ cell_view v ∷ []) (sym c.new.ensures) in
    let cells = ap (map (λ k. cell_view (padded_value k))) c.in_ok-push.ensures.items ∙ map-append (λ k. cell_view (padded_value k)) l.cells.items (padded ∷ []) ∙ sym grown in
    let seats = ap (map seat_view) c.in_ok-push-2.ensures.items ∙ map-append seat_view l.seats.items (seat ∷ []) in
    let long = ap length c.next_of-piece.ensures.items in
    let n = l.invariant.left in
    let m = l.invariant.shares in
    let t = c.loop-test.true in
    record {
      opens = opens-next c.args.geometry c.args.cookie (pool_cell c.args.pool.now).cell (into_iter_items c.into_iter-rest.result) (into_iter_items l.rest) (into_iter_items c.next_of-piece.new.rest) c.next_of-piece.result
          (seat_view c.args.keeper).share (seat_view l.keeper) (seat_view c.open_part.new.keeper) (seat_claims l.keeper).facts (seat_claims c.open_part.new.keeper).facts _ _ _ _ (cell_view cell) (seat_view seat)
          l.invariant.opens c.next_of-piece.ensures.items (omega arith) c.in_ok-cell.ensures.kept c.in_ok-cell.ensures.claims c.in_ok-cell.ensures.cell c.in_ok-cell.ensures.first
          cells seats;
      own = subst (All (λ s. seat_claims s ≡ first_claims)) (sym c.in_ok-push-2.ensures.items) (All-push (λ s. seat_claims s ≡ first_claims) l.seats.items seat l.invariant.own c.in_ok-cell.ensures.own);
      left = omega arith;
      shares = (let e = ap (λ k. k.share) c.in_ok-cell.ensures.kept in omega arith);
    }

pub open_last-requires-clause-piece : goal.open_last-requires-clause-piece
open_last-requires-clause-piece c =
    All-head IsPiece c.next_of-last.result (into_iter_items c.next_of-last.new.rest) (subst (All IsPiece) c.next_of-last.ensures.items c.loop.invariant.opens.still.pieces)

pub open_last-requires-clause-whole : goal.open_last-requires-clause-whole
open_last-requires-clause-whole c =
    let S : List Piece → Type 0 = λ q. StillOpens c.args.geometry.block_size q (seat_claims c.loop.keeper).facts in
    still-whole c.args.geometry.block_size c.next_of-last.result (into_iter_items c.next_of-last.new.rest) (seat_claims c.loop.keeper).facts (subst S c.next_of-last.ensures.items c.loop.invariant.opens.still)

pub open_last-requires-clause-distinct : goal.open_last-requires-clause-distinct
open_last-requires-clause-distinct c =
    let S : List Piece → Type 0 = λ q. StillOpens c.args.geometry.block_size q (seat_claims c.loop.keeper).facts in
    still-distinct c.args.geometry.block_size c.next_of-last.result (into_iter_items c.next_of-last.new.rest) (seat_claims c.loop.keeper).facts (subst S c.next_of-last.ensures.items c.loop.invariant.opens.still)

pub open_last-requires-clause-seat : goal.open_last-requires-clause-seat
open_last-requires-clause-seat c =
    let s = c.loop.invariant.opens.seat in
    s ∙ ap (λ home. first_seat home (seat_view c.loop.keeper).share) (sym (ap (λ v. v.cell) s))

pub open_last-requires-clause-keeps : goal.open_last-requires-clause-keeps
open_last-requires-clause-keeps c =
    let one : length (into_iter_items c.loop.rest) ≡ 1 = (let n = c.loop.invariant.left in let t = c.loop-test.false in let m = c.loop.auto.counter-end in omega arith) in
    still-last c.args.geometry.block_size c.next_of-last.result (into_iter_items c.loop.rest) (into_iter_items c.next_of-last.new.rest) (seat_claims c.loop.keeper).facts c.loop.invariant.opens.still c.next_of-last.ensures.items one

pub returns-clause-cells : goal.returns-clause-cells
returns-clause-cells c =
    let l = c.loop in
    let g = c.args.geometry in
    let home = (pool_cell c.args.pool.now).cell in
    let p = c.next_of-last.result in
    let o = (cell_view c.in_ok-cell-2.cell).opening in
    let share = (seat_view c.args.keeper).share in
    let one : length (into_iter_items l.rest) ≡ 1 = (let n = l.invariant.left in let t = c.loop-test.false in let m = l.auto.counter-end in omega arith) in
    let last = subst (λ t. IsOpenedWith g c.args.cookie t (seat_view l.keeper).share p o) (ap (λ v. v.cell) l.invariant.opens.seat) c.in_ok-cell-2.ensures.cell in
    let all = opens-last g c.args.cookie home (into_iter_items c.into_iter-rest.result) (into_iter_items l.rest) (into_iter_items c.next_of-last.new.rest) p share (seat_view l.keeper) (seat_claims l.keeper).facts _ _ o
    l.invariant.opens c.next_of-last.ensures.items one last in
    let cells = ap (map (λ k. (cell_view (padded_value k)).opening)) c.in_ok-push-3.ensures.items ∙ map-append (λ k. (cell_view (padded_value k)).opening) l.cells.items (c.new-2.result ∷ [])
    ∙ (λ j. sym (map-map (λ (v : CellView RangeView). v.opening) (λ k. cell_view (padded_value k)) l.cells.items) j ++ (cell_view (c.new-2.ensures j)).opening ∷ []) in
    subst (λ ps. AreOpened g c.args.cookie home share ps (map (λ k. (cell_view (padded_value k)).opening) c.push-2.new.self.items)) c.into_iter-rest.ensures.rest
    (subst (AreOpened g c.args.cookie home share (into_iter_items c.into_iter-rest.result)) (sym cells) all)

pub returns-clause-seats : goal.returns-clause-seats
returns-clause-seats c =
    let l = c.loop in
    ap (map seat_view) c.in_ok-push-4.ensures.items ∙ map-append seat_view l.seats.items (c.in_ok-cell-2.seat ∷ [])
    ∙ (λ j. (l.invariant.opens.seats_are ∙ map-map is_first_at (λ k. cell_view (padded_value k)) l.cells.items) j ++ (c.in_ok-cell-2.ensures.first ∙ ap (λ v. is_first_at (cell_view v)) (sym c.new-2.ensures)) j ∷ [])
    ∙ sym (map-append (λ k. is_first_at (cell_view (padded_value k))) l.cells.items (c.new-2.result ∷ [])) ∙ ap (map (λ k. is_first_at (cell_view (padded_value k)))) (sym c.in_ok-push-3.ensures.items)

pub returns-clause-own : goal.returns-clause-own
returns-clause-own c =
    subst (All (λ s. seat_claims s ≡ first_claims)) (sym c.in_ok-push-4.ensures.items) (All-push (λ s. seat_claims s ≡ first_claims) c.loop.seats.items c.in_ok-cell-2.seat c.loop.invariant.own c.in_ok-cell-2.ensures.own)
