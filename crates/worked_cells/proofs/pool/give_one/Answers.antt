use Rattle.std.proofs.Common.{List, ◌∷◌, [], ◌++◌, sym, ap, ◌∙◌}
use Rattle.iob_base.specs.DeviceBlock.{DeviceBlock}
use Rattle.turn_cell.specs.Seats.{seat_claims}
use Rattle.worked_cells.proofs.Holding.{last-goes, gave}
use Rattle.worked_cells.proofs.pool.give_one.Goals as goal

pub give-requires-clause-can : goal.give-requires-clause-can
give-requires-clause-can g c =
    let left : List DeviceBlock = c.pop.new.self.items in
    let one-is = c.push_reserved.ensures.items ∙ ap (λ (l : List DeviceBlock). l ++ c.in-Some.sector ∷ []) c.requires.one.0 in
    last-goes c.args.held.now.items left c.push_reserved.new.self.items (seat_claims c.args.seat.now).facts (c.in-Some.ensures.items ∙ ap (λ (l : List DeviceBlock). left ++ l) (sym one-is)) c.requires.holds

pub returns-in-Some-clause-holds : goal.returns-in-Some-clause-holds
returns-in-Some-clause-holds g c =
    let left : List DeviceBlock = c.pop.new.self.items in
    let one-is = c.push_reserved.ensures.items ∙ ap (λ (l : List DeviceBlock). l ++ c.in-Some.sector ∷ []) c.requires.one.0 in
    gave c.args.held.now.items left c.push_reserved.new.self.items (seat_claims c.args.seat.now).facts (seat_claims c.give.new.seat).facts (c.in-Some.ensures.items ∙ ap (λ (l : List DeviceBlock). left ++ l) (sym one-is)) c.requires.holds c.give.ensures.claims
