use Rattle.turn_cell.specs.Seats.{seat_claims}
use Rattle.space_pool.proofs.Keeping.{stands-claim}
use Rattle.worked_cells.proofs.Holding.{took}
use Rattle.worked_cells.proofs.pool.take_one.Goals as goal

pub returns-clause-holds : goal.returns-clause-holds
returns-clause-holds g c =
    let turned = c.take.ensures.turned in
    (took c.args.held.now.items c.take.new.into.items (seat_claims c.args.seat.now).facts (seat_claims c.reserve.new.seat).facts (seat_claims c.take.new.seat).facts turned.value turned.next
    c.requires.holds c.in-Ok.ensures.claims (stands-claim turned.stood) turned.done.0).0
