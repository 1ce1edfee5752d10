use Rattle.turn_cell.specs.Seats.{seat_claims, seat_view}
use Rattle.range_core.specs.PoolTurns.{TakesAt, place_at}
use Rattle.range_core.proofs.PoolLemmas.{stands-distinct, takes_all, turns_for}
use Rattle.range_core.proofs.space.take_at.Goals as goal

pub returns-clause-distinct : goal.returns-clause-distinct
returns-clause-distinct g c = stands-distinct c.take.ensures.turned.stands

pub returns-clause-turn : goal.returns-clause-turn
returns-clause-turn g c =
    turns_for c.args.n (TakesAt _ c.args.n c.take.new.into.items) _ _ c.if-n-eq0.false
    (takes_all _ c.args.n _ c.take.new.into.items (place_at (seat_view c.args.seat.now) (seat_claims c.args.seat.now).facts) (place_at (seat_view c.take.new.seat) (seat_claims c.take.new.seat).facts) c.requires.empty c.take.ensures.same c.take.ensures.turned)
