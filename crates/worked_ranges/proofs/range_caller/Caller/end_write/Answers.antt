use Rattle.std.proofs.Common.{ap, sym, subst}
use Rattle.std.specs.Prelude.{Option}
use Rattle.turn_cell.specs.Seats.{cell_view, seat_claims, seat_view}
use Rattle.turn_cell.specs.Views.{SeatView}
use Rattle.range_core.specs.ClaimsView.{ClaimsView}
use Rattle.range_core.specs.declared.entry.Entry.{Entry}
use Rattle.range_core.specs.declared.lending.Lender.{Lender}
use Rattle.range_core.specs.declared.lending.Lent.{Lent}
use Rattle.worked_ranges.proofs.CallerLemmas.{GoesOn, comes_home}
use Rattle.worked_ranges.specs.SmallRanges.{IsCaller}
use Rattle.worked_ranges.proofs.range_caller.Caller.end_write.Goals as goal

pub returns-clause-stands : goal.returns-clause-stands
returns-clause-stands g c =
    let t = c.turn-end.ensures.turned in
    let on : GoesOn (seat_view c.join.new.into) (seat_view c.turn-end.new.seat) = record { cell = c.turn-end.ensures.same.0; others = t.others; entry = t.entry; seen = t.seen_is } in
    let same = ap (λ (s : SeatView Entry). s.cell) c.join.ensures.seat in
    let main = ap (λ (x : ClaimsView). x.main) c.join.ensures.claims in
    let P : Option (Lender × Lent) → Type 0 = λ l. IsCaller (cell_view c.args.self.now.ground.now.cell) (seat_view c.turn-end.new.seat) (seat_claims c.turn-end.new.seat) c.args.self.now.sample l in
    subst P (sym c.expect_free.ensures) (comes_home _ (seat_view c.args.self.now.seat) (seat_view c.join.new.into) _ (seat_claims c.args.self.now.seat) (seat_claims c.join.new.into) (seat_claims c.turn-end.new.seat) c.args.self.now.sample c.args.self.now.loan c.requires.stands same c.join.ensures.begins.0 main on t.done.claims_are)
