use Rattle.turn_cell.specs.Seats.{seat_view}
use Rattle.worked_ranges.proofs.CallerLemmas.{GoesOn, goes_on}
use Rattle.worked_ranges.proofs.range_caller.Caller.read_turn.Goals as goal

pub returns-clause-stands : goal.returns-clause-stands
returns-clause-stands g c =
    let t = c.turn.ensures.turned in
    let on : GoesOn (seat_view c.args.self.now.seat) (seat_view c.turn.new.seat) = record { cell = c.turn.ensures.same.0; others = t.others; entry = t.entry; seen = t.seen_is } in
    goes_on _ _ _ _ _ _ _ c.requires.stands on t.done.claims_are
