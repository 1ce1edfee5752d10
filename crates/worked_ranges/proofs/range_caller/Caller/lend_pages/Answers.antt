use Rattle.turn_cell.specs.Seats.{seat_view}
use Rattle.worked_ranges.proofs.CallerLemmas.{GoesOn, goes_on, small_lies, takes}
use Rattle.worked_ranges.proofs.range_caller.Caller.lend_pages.Goals as goal

pub returns-in-Ok-Lent-clause-stands : goal.returns-in-Ok-Lent-clause-stands
returns-in-Ok-Lent-clause-stands g c =
    let t = c.in-Ok-Lent.ensures.turned in
    let on : GoesOn (seat_view c.args.self.now.seat) (seat_view c.turn.new.seat) = record { cell = c.in-Ok-Lent.ensures.same.0; others = t.others; entry = t.entry; seen = t.seen_is } in
    let k = rw c.in-Ok-Lent.field-0-is at t.done.did.claims_are in
    let lies = small_lies _ _ _ _ c.args.self.now.ground.now.stands.small c.expect_loan.ensures.some c.expect_loan.ensures.within in
    takes _ _ _ _ _ _ _ _ _ _ c.requires.stands on k c.expect_loan.ensures.ready lies

pub returns-in-Ok-Zeros-clause-stands : goal.returns-in-Ok-Zeros-clause-stands
returns-in-Ok-Zeros-clause-stands g c =
    let t = c.in-Ok-Zeros.ensures.turned in
    let on : GoesOn (seat_view c.args.self.now.seat) (seat_view c.turn.new.seat) = record { cell = c.in-Ok-Zeros.ensures.same.0; others = t.others; entry = t.entry; seen = t.seen_is } in
    goes_on _ _ _ _ _ _ _ c.requires.stands on (rw c.in-Ok-Zeros.field-0-is at t.done.did.claims_are)

pub returns-clause-stands : goal.returns-clause-stands
returns-clause-stands g c =
    let t = c.in-Err.ensures.turned in
    let on : GoesOn (seat_view c.args.self.now.seat) (seat_view c.turn.new.seat) = record { cell = c.in-Err.ensures.same.0; others = t.others; entry = t.entry; seen = t.seen_is } in
    goes_on _ _ _ _ _ _ _ c.requires.stands on t.done.did.claims_are
