use Rattle.std.proofs.Common.{◌≡◌, ℕ, ◌+◌, ◌-◌, Option, Some, take, drop, ap, ◌∙◌, subst, arith}
use Rattle.turn_cell.specs.Seats.{seat_claims, seat_view}
use Rattle.range_core.specs.Kinds.{is_unwritten}
use Rattle.range_core.specs.RangeView.{RangeView, range_view}
use Rattle.range_core.specs.Refusals.{◌orElse◌, at_first, cold, dirty, first_that_stops, worn}
use Rattle.range_core.specs.declared.fault.EventFault.{EventFault}
use Rattle.range_core.proofs.range.Range.page_stop.Goals as goal

pub returns-in-Some : goal.returns-in-Some
returns-in-Some c =
    let r = c.self.inside in
    let b : ℕ = c.args.block in
    let view : RangeView = range_view r.geometry r.mode r.first r.cells.items r.log.items r.cookie r.errors r.tickets (seat_view r.seat) (seat_claims r.seat).facts in
    let rest : Option EventFault = at_first dirty view b orElse worn view (is_unwritten c.args.seen.extent.kind) in
    let V : RangeView → Type 0 = λ v. Some c.in-Some.fault ≡ at_first cold v b orElse (at_first dirty v b orElse worn v (is_unwritten c.args.seen.extent.kind)) in
    let one : b - r.first + 1 - (b - r.first) ≡ 1 = omega arith in
    let stops : Some c.in-Some.fault ≡ at_first cold view b =
    c.in-Some.ensures ∙ ap (λ n. first_that_stops cold b (take n (drop (b - r.first) c.deref.result.now))) one ∙ ap (λ xs. first_that_stops cold b (take 1 (drop (b - r.first) xs))) c.deref.ensures.value in
    subst V c.self.view_is (ap (λ o. o orElse rest) stops)
