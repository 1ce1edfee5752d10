use Rattle.std.proofs.Common.{◌≡◌, ◌∙◌, ap}
use Rattle.std.proofs.lemmas.Result.{IfOk-weaker}
use Rattle.turn_cell.specs.Seats.{cell_view, seat_claims, seat_view}
use Rattle.turn_cell.specs.Views.{new_part}
use Rattle.space_pool.specs.Claims.{claims_with}
use Rattle.space_pool.specs.Seats.{pool_cell}
use Rattle.mount_parts.specs.Pieces.{IsOpenedWith, range_with}
use Rattle.mount_parts.proofs.Openings.{opened-with, part-claims}
use Rattle.mount_parts.proofs.opening.open_part.Goals as goal

pub open_range-requires-clause-claims : goal.open_range-requires-clause-claims
open_range-requires-clause-claims c =
    part-claims c.args.geometry.block_size c.args.piece (seat_claims c.in_ok-seat.seat).facts c.requires.distinct
    (c.in_ok-seat.ensures.part ∙ (λ j. claims_with (c.as_slice.ensures j) c.args.piece.stripe.blocks (c.requires.sized j)))

pub returns-clause-cell : goal.returns-clause-cell
returns-clause-cell c =
    let g = c.args.geometry in
    let p = c.args.piece in
    let s = c.in_ok-seat.seat in
    let home = (pool_cell c.args.pool.now).cell in
    IfOk-weaker c.open_range.result (λ r. (cell_view r.0).opening ≡ range_with g c.args.cookie p (seat_view s) (seat_claims s).facts) (λ r. IsOpenedWith g c.args.cookie home 1 p (cell_view r.0).opening)
    (λ r is. opened-with g c.args.cookie home 1 p (cell_view r.0).opening (seat_view s) (seat_claims s).facts is (c.in_ok-seat.ensures.given ∙ ap (λ k. new_part k 1) c.requires.seat)
    (part-claims g.block_size p (seat_claims s).facts c.requires.distinct (c.in_ok-seat.ensures.part ∙ (λ j. claims_with (c.as_slice.ensures j) p.stripe.blocks (c.requires.sized j)))))
    c.open_range.ensures.cell
