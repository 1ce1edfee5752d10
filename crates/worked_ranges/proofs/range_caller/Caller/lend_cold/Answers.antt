use Rattle.turn_cell.specs.Seats.{seat_view}
use Rattle.worked_ranges.proofs.CallerLemmas.{GoesOn, goes_on, small_lies, takes}
use Rattle.worked_ranges.proofs.range_caller.Caller.lend_cold.Goals as goal

pub returns-in-Ok-clause-stands : goal.returns-in-Ok-clause-stands
returns-in-Ok-clause-stands g c =
    let t = c.in-Ok.ensures.turned in
    let on : GoesOn (seat_view c.args.self.now.seat) (seat_view c.turn.new.seat) = record { cell = c.in-Ok.ensures.same.0; others = t.others; entry = t.entry; seen = t.seen_is } in
    takes _ _ _ _ _ _ _ _ _ _ c.requires.stands on t.done.claims_are t.done.ready (small_lies _ _ _ _ c.args.self.now.ground.now.stands.small c.expect_loan.ensures.some c.expect_loan.ensures.within)

pub returns-clause-stands : goal.returns-clause-stands
returns-clause-stands g c =
    let t = c.in-Err.ensures.turned in
    let on : GoesOn (seat_view c.args.self.now.seat) (seat_view c.turn.new.seat) = record { cell = c.in-Err.ensures.same.0; others = t.others; entry = t.entry; seen = t.seen_is } in
    goes_on _ _ _ _ _ _ _ c.requires.stands on t.done.claims_are
