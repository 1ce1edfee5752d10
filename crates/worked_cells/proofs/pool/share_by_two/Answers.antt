use Rattle.std.proofs.Common.{◌≡◌, [], ◌++◌, ap, ◌∙◌}
use Rattle.turn_cell.specs.Seats.{seat_view, seat_claims}
use Rattle.space_pool.specs.Claims.{ClaimsView, times}
use Rattle.space_pool.specs.Seats.{pool_cell}
use Rattle.worked_cells.proofs.Closing.{all-back}
use Rattle.worked_cells.proofs.pool.share_by_two.Goals as goal

pub returns : goal.returns
returns g c x =
    let mine = c.join-seat.ensures.first.2 in
    let theirs = c.join-seat.ensures.second.2 in
    let last = c.join.new.into in
    let both : (seat_claims last).facts.numbers ≡ (seat_claims c.join-seat.result.0).facts.numbers ++ (seat_claims c.join-seat.result.1).facts.numbers = ap (λ (d : ClaimsView). d.numbers) c.join.ensures.claims in
    let none : (seat_claims last).facts.numbers ≡ [] = both ∙ ap (λ l. l ++ (seat_claims c.join-seat.result.1).facts.numbers) mine.0 ∙ theirs.0 in
    all-back (pool_cell c.in_ok-pool.pool).opening (seat_view last) (seat_claims last) c.close.result.items c.close.ensures none x ∙ ap (times x) c.in_ok-pool.ensures.numbers
