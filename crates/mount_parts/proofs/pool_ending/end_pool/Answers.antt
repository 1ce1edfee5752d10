use Rattle.std.proofs.Common.{sym, ◌∙◌, arith}
use Rattle.turn_cell.specs.Seats.{seat_claims, seat_view}
use Rattle.mount_parts.specs.PoolEnds.{number_weight, share_of}
use Rattle.mount_parts.proofs.PoolEnds.{ends-alike, last-weighs}
use Rattle.mount_parts.proofs.pool_ending.end_pool.Goals as goal

pub close_pool-requires-clause-whole : goal.close_pool-requires-clause-whole
close_pool-requires-clause-whole c =
    let items = c.in-Some.ensures.items in
    let some = c.in-Some.ensures.cases in
    sym (last-weighs share_of seat_view c.args.seats.items c.pop.new.self.items c.in-Some.keeper items) ∙ c.requires.whole (omega arith)

pub returns-clause-pool : goal.returns-clause-pool
returns-clause-pool c some =
    let items = c.in-Some.ensures.items in
    ends-alike _ _ _ c.close_pool.result.items (λ f. sym (last-weighs (number_weight f) seat_claims c.args.seats.items c.pop.new.self.items c.in-Some.keeper items)) c.close_pool.ensures
