use Rattle.std.proofs.Common.{refl, sym, ◌∙◌, subst}
use Rattle.std.specs.Option.{IsSome}
use Rattle.turn_cell.specs.Seats.{place_view}
use Rattle.turn_cell.specs.Views.{Closed}
use Rattle.turn_cell.proofs.Ending.{ends, taken, closed-with}
use Rattle.turn_cell.proofs.cell.TurnCell.close.Goals as goal

pub unwrap-requires : goal.unwrap-requires
unwrap-requires g c =
    let parts = c.into_parts-place.ensures in
    let truth = g.T.Chronicle.truth in
    let opening = c.into_table.result.shared.key.value.value in
    let sole = ends truth opening c.into_parts-place.result.0 c.into_parts-place.result.1 _ _ parts.2 ((λ i. (parts.0 i).me.0.share) ∙ c.requires.whole) c.close_with-closed.ensures.values.2 in
    subst IsSome (sym (taken truth opening sole c.take-slot.ensures.value)) refl

pub returns : goal.returns
returns g c =
    let parts = c.into_parts-place.ensures in
    let truth = g.T.Chronicle.truth in
    let opening = c.into_table.result.shared.key.value.value in
    let seat = c.args.seat in
    let sole = ends truth opening c.into_parts-place.result.0 c.into_parts-place.result.1 _ _ parts.2 ((λ i. (parts.0 i).me.0.share) ∙ c.requires.whole) c.close_with-closed.ensures.values.2 in
    let closed = closed-with truth opening seat.place seat.claims c.unwrap.result sole c.take-slot.ensures.value c.unwrap.ensures parts.0 parts.1 in
    subst (λ t. Closed truth t.shared.key.value.value c.unwrap.result (place_view seat.place) seat.claims) c.into_table.ensures.table closed
