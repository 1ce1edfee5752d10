use Rattle.std.proofs.Common.{◌≡◌, ◌<◌, ◌-◌, ap, ◌∙◌, sym, subst, arith}
use Rattle.bio_pages.specs.Shelf.{SeatView, known_view, with_errand, IsFree}
use Rattle.bio_pages.specs.ShelfRule.{errand_to}
use Rattle.bio_pages.specs.ShelfSteps.{IsAtRest}
use Rattle.bio_pages.proofs.ShelfKeeps.{splits}
use Rattle.bio_pages.proofs.shelf.BioShelf.split.Goals as goal

pub lend-place-requires-clause-step : goal.lend-place-requires-clause-step
lend-place-requires-clause-step g c =
    let seat = c.seat.inside in
    let first : seat.place.id ≡ 0 = ap (λ (v : SeatView g.row.T.Denot). v.seat) c.seat.view_is ∙ c.requires.owner in
    let free = subst (λ (v : SeatView g.row.T.Denot). IsFree v c.args.slot) (sym c.seat.view_is) c.requires.free in
    let enough : 32 < seat.place.me.0.amount = subst (λ (v : SeatView g.row.T.Denot). 32 < v.amount) (sym c.seat.view_is) c.requires.amount in
    splits seat.place.id (errand_to c.args.slot c.args.bio.now) seat.place.me.0 first c.seat.invariant.2 free (omega arith)

pub invariant_of-seat : goal.invariant_of-seat
invariant_of-seat g c =
    let kept = c.lend-place.ensures.kept.2 in (
      (λ i. (kept i).1) ∙ c.seat.invariant.0,
      ap (λ n. n - 1) c.seat.invariant.1 ∙ (λ i. (sym kept i).0.amount),
      subst IsAtRest (λ i. (sym kept i).0.doing) c.seat.invariant.2,
    )

pub invariant_of-result : goal.invariant_of-result
invariant_of-result g c =
    let given = c.lend-place.ensures.given.1 in (
      (λ i. (given i).1),
      (λ i. (sym given i).0.amount),
      subst IsAtRest (λ i. (sym given i).0.doing) tt,
    )

pub returns-clause-kept : goal.returns-clause-kept
returns-clause-kept g c =
    let kept = c.lend-place.ensures.kept in
    (λ i. known_view (kept.0 i) (kept.1 i) (kept.2 i).0) ∙ ap (λ (v : SeatView g.row.T.Denot). with_errand v c.args.slot c.args.bio.now) c.seat.view_is

pub returns-clause-given : goal.returns-clause-given
returns-clause-given g c =
    let given = c.lend-place.ensures.given in
    let shelf = given.0 ∙ ap (λ (v : SeatView g.row.T.Denot). v.shelf) c.seat.view_is ∙ c.requires.shelf in
    (λ i. known_view (shelf i) c.lend-place.result.id (given.1 i).0)
