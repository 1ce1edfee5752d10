use Rattle.std.proofs.Common.{◌<◌, ap, ◌∙◌, sym, subst, arith}
use Rattle.folio_bits.specs.Views.{CountView}
use Rattle.folio_bits.specs.Steps.{less}
use Rattle.folio_bits.proofs.Keeps.{cuts}
use Rattle.folio_bits.proofs.countdown.Countdown.split.Goals as goal

pub cut-place-requires-clause-step : goal.cut-place-requires-clause-step
cut-place-requires-clause-step c =
    let few : c.args.share < c.seat.inside.amount = subst (λ (v : CountView). c.args.share < v.amount) (sym c.seat.view_is) c.requires.less in
    cuts c.seat.inside.place.id c.seat.inside.amount c.args.share c.seat.inside.place.me.0 c.seat.invariant.0 few

pub invariant_of-seat : goal.invariant_of-seat
invariant_of-seat c =
    let few : c.args.share < c.seat.inside.amount = subst (λ (v : CountView). c.args.share < v.amount) (sym c.seat.view_is) c.requires.less in
    (c.cut-place.ensures.kept.2 ∙ ap (less c.args.share) c.seat.invariant.0, omega arith)

pub invariant_of-result : goal.invariant_of-result
invariant_of-result c = (c.cut-place.ensures.given.1, c.requires.some)
