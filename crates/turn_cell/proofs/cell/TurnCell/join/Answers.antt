use Rattle.std.proofs.Common.{ap, ◌∙◌, subst}
use Rattle.turn_cell.specs.Seats.{place_view}
use Rattle.turn_cell.specs.Stakes.{Begins}
use Rattle.turn_cell.specs.Views.{joined}
use Rattle.turn_cell.proofs.Looking.{looks-at, looked-joined, begins-joined}
use Rattle.turn_cell.proofs.Parting.{joins, idle-view, idle-joined}
use Rattle.turn_cell.proofs.cell.TurnCell.join.Goals as goal

pub join_place-requires-clause-step : goal.join_place-requires-clause-step
join_place-requires-clause-step g c =
    let into = c.args.into.now in
    let place = c.into_parts-place.result.0 in
    let claims = c.into_parts-place.result.1 in
    joins g.T.Chronicle.truth c.args.self.now.table.shared.key.value.value into.place.id place.id into.place.me.0 place.me.0 into.claims claims c.merge.new.into
    (idle-view into.place.me into.claims into.idle) (idle-view place.me claims c.into_parts-place.ensures.2) c.merge.ensures.truth

pub look-requires-clause-step : goal.look-requires-clause-step
look-requires-clause-step g c =
    looks-at g.T.Chronicle.truth c.args.self.now.table.shared.key.value.value c.join_place.new.place.id c.join_place.new.place.me (ap (λ me. me.1) c.join_place.ensures.2 ∙ c.args.into.now.idle.slots)

pub invariant_of-into : goal.invariant_of-into
invariant_of-into g c =
    let into = c.args.into.now in
    let place = c.into_parts-place.result.0 in
    let both = c.merge.new.into in
    let is = looked-joined into.place.me place.me c.join_place.new.place.me c.look.new.place.me both c.join_place.ensures.2 c.look.ensures.step.1 in
    record { idle = idle-joined into.place.me place.me c.look.new.place.me into.claims c.into_parts-place.result.1 both into.idle c.into_parts-place.ensures.2 is }

pub returns-clause-seat : goal.returns-clause-seat
returns-clause-seat g c =
    let into = c.args.into.now in
    let place = c.into_parts-place.result.0 in
    let both = c.merge.new.into in
    let cell = c.look.ensures.cell.0 ∙ c.join_place.ensures.0 in
    let is = looked-joined into.place.me place.me c.join_place.new.place.me c.look.new.place.me both c.join_place.ensures.2 c.look.ensures.step.1 in
    let from = c.into_parts-place.ensures.0 in
    (λ i. record { cell = cell i; seen = (is i).0.seen; made = (is i).0.made; share = (is i).0.share; refused = (is i).0.refused }) ∙ (λ i. joined (place_view into.place) (place_view (from i)))

pub returns-clause-begins : goal.returns-clause-begins
returns-clause-begins g c =
    let into = c.args.into.now in
    let place = c.into_parts-place.result.0 in
    let from = c.into_parts-place.ensures.0 in
    let b = begins-joined into.place.me place.me c.join_place.new.place.me c.look.new.place.me c.merge.new.into c.join_place.ensures.2 c.look.ensures.step.1 in
    (b.0, subst (λ p. Begins p.me.0.seen c.look.new.place.me.0.seen) from b.1)
