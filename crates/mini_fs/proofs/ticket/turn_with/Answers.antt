use Rattle.std.proofs.Common.{◌≡◌, ap, ◌∙◌, sym}
use Rattle.turn_cell.specs.Seats.{cell_view, seat_claims, seat_view}
use Rattle.range_core.specs.ClaimsView.{ClaimsView, merged_claims, released}
use Rattle.mini_fs.specs.Tickets.{with_held}
use Rattle.mini_fs.proofs.Loans.{joined-loan, left-held, merged-loan, turned-with}
use Rattle.mini_fs.proofs.ticket.turn_with.Goals as goal

pub returns-clause-turned : goal.returns-clause-turned
returns-clause-turned g c =
    let c0 = seat_claims c.args.seat.now in
    let held = (seat_claims c.args.loan).held in
    let s0 = seat_view c.args.seat.now in
    let t = seat_view c.args.loan in
    let c1 = seat_claims c.join.new.into in
    let c2 = seat_claims c.turn-out.new.seat in
    let opening = (cell_view c.args.cell.now).opening in
    let turned = c.turn-out.ensures.turned in
    let e1 : c1 ≡ with_held c0 held = c.join.ensures.claims ∙ ap (merged_claims c0) c.requires.carries ∙ merged-loan c0 held c.requires.free in
    let same : released c2 ≡ released c1 = c.requires.leaves opening _ turned.value turned.next c1 c2 c.turn-out.new.change c.turn-out.result turned.entry turned.done in
    let e2 : c2 ≡ with_held c0 (seat_claims c.split-back.result).held = left-held c0 c2 held c.requires.free (same ∙ ap released e1) ∙ ap (λ (x : ClaimsView). with_held c0 x.held) (sym c.split-back.ensures.claims.1) in
    turned-with (λ x y history value next entry. g.C.Change.does c.args.change.now opening history value x c.turn-out.new.change next y c.turn-out.result entry) opening c1 c2 (with_held c0 held) (with_held c0 (seat_claims c.split-back.result).held) s0 (seat_view c.join.new.into) (seat_view c.turn-out.new.seat) (seat_view c.split-back.new.seat) t.share
    e1 e2 (c.join.ensures.seat ∙ joined-loan s0 t c.requires.loan) c.split-back.ensures.kept turned
