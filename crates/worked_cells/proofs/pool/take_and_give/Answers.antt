use Rattle.std.proofs.Common.{List, ◌++◌, ap, ◌∙◌}
use Rattle.iob_base.specs.DeviceBlock.{DeviceBlock}
use Rattle.turn_cell.specs.Seats.{seat_claims}
use Rattle.worked_cells.proofs.CameBack.{came-back}
use Rattle.worked_cells.proofs.pool.take_and_give.Goals as goal

pub returns-in-Ok-clause-claims : goal.returns-in-Ok-clause-claims
returns-in-Ok-clause-claims g c =
    let some = c.in-Ok.ensures.turned.done.0 in
    let took = c.take.ensures.turned.done.0 in
    let gave = c.give.ensures.turned.done.0 in
    let taken : List DeviceBlock = took.lowest.taken in
    came-back (seat_claims c.args.seat.now).facts (seat_claims c.reserve_some.new.seat).facts (seat_claims c.take.new.seat).facts (seat_claims c.give.new.seat).facts taken c.take.new.into.items c.in-Ok.n
    c.requires.claims.0 some.ok.1 took.claims took.lowest.count (took.lowest.appended ∙ ap (λ (l : List DeviceBlock). l ++ taken) c.requires.held.0) gave.claims
