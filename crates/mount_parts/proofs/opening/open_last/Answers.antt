use Rattle.std.proofs.Common.{◌≡◌}
use Rattle.std.proofs.lemmas.Result.{IfOk-weaker}
use Rattle.turn_cell.specs.Seats.{cell_view, seat_claims, seat_view}
use Rattle.mount_parts.specs.Pieces.{IsOpenedWith, range_with}
use Rattle.mount_parts.proofs.Openings.{last-claims, opened-with}
use Rattle.mount_parts.proofs.opening.open_last.Goals as goal

pub open_range-requires-clause-claims : goal.open_range-requires-clause-claims
open_range-requires-clause-claims c = last-claims c.args.geometry.block_size c.args.piece (seat_claims c.args.keeper).facts c.requires.distinct c.requires.keeps

pub returns-clause-cell : goal.returns-clause-cell
returns-clause-cell c =
    let g = c.args.geometry in
    let p = c.args.piece in
    let k = c.args.keeper in
    IfOk-weaker c.open_range.result (λ r. (cell_view r.0).opening ≡ range_with g c.args.cookie p (seat_view k) (seat_claims k).facts) (λ r. IsOpenedWith g c.args.cookie (seat_view k).cell (seat_view k).share p (cell_view r.0).opening)
    (λ r is. opened-with g c.args.cookie (seat_view k).cell (seat_view k).share p (cell_view r.0).opening (seat_view k) (seat_claims k).facts is c.requires.seat (last-claims g.block_size p (seat_claims k).facts c.requires.distinct c.requires.keeps))
    c.open_range.ensures.cell
