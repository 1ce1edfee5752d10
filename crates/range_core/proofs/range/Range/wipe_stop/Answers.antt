use Rattle.std.proofs.Common.{◌≡◌, ℕ, ◌+◌, ◌-◌, sym, ◌∙◌, ap, subst, arith}
use Rattle.turn_cell.specs.Seats.{seat_claims, seat_view}
use Rattle.range_core.specs.RangeView.{RangeView, range_view}
use Rattle.range_core.specs.Refusals.{wipe_refusal}
use Rattle.range_core.specs.Wipes.{used_in}
use Rattle.range_core.proofs.WipeLemmas.{wipe_stops}
use Rattle.range_core.proofs.range.Range.wipe_stop.Goals as goal

pub returns : goal.returns
returns c =
    let r = c.self.inside in
    let b : ℕ = c.args.block in
    let n : ℕ = c.args.blocks in
    let view : RangeView = range_view r.geometry r.mode r.first r.cells.items r.log.items r.cookie r.errors r.tickets (seat_view r.seat) (seat_claims r.seat).facts in
    let U : RangeView → Type 0 = λ v. c.args.changed ≡ used_in v b n in
    let counted = subst U (sym c.self.view_is) c.requires.counted in
    let same : b - r.first + n - (b - r.first) ≡ n = omega arith in
    c.worn_stop.ensures ∙ wipe_stops view b n c.args.changed _ c.deref.result.now counted same c.deref.ensures.value c.in_default.ensures ∙ ap (λ v. wipe_refusal v b n) c.self.view_is
