use Rattle.turn_cell.proofs.Parting.{splits, idle-view, idle-kept}
use Rattle.turn_cell.proofs.cell.TurnCell.split.Goals as goal

pub split_place-place-requires-clause-step : goal.split_place-place-requires-clause-step
split_place-place-requires-clause-step g c =
    let seat = c.args.seat.now in
    splits g.T.Chronicle.truth c.args.self.now.table.shared.key.value.value seat.place.id seat.place.me.0 seat.claims c.cut-claims.new.claims c.cut-claims.result c.args.share
    (idle-view seat.place.me seat.claims seat.idle) c.requires.some c.requires.less c.cut-claims.ensures.truth

pub invariant_of-seat : goal.invariant_of-seat
invariant_of-seat g c =
    let seat = c.args.seat.now in
    record { idle = idle-kept seat.place.me c.split_place-place.new.place.me seat.claims c.cut-claims.new.claims c.args.share seat.idle c.requires.less c.split_place-place.ensures.kept.2 }
