use Rattle.std.proofs.Common.{refl, sym, subst}
use Rattle.std.specs.Prelude.{Option}
use Rattle.turn_cell.specs.Seats.{cell_view, seat_claims, seat_view}
use Rattle.range_core.specs.declared.lending.Lender.{Lender}
use Rattle.range_core.specs.declared.lending.Lender.TheVariants.{Part as InPart}
use Rattle.range_core.specs.declared.lending.Lent.{Lent}
use Rattle.worked_ranges.proofs.CallerLemmas.{GoesOn, gives_back, may_come_back}
use Rattle.worked_ranges.specs.SmallRanges.{IsCaller}
use Rattle.worked_ranges.proofs.range_caller.Caller.part_back.Goals as goal

pub turn-pages-requires-clause-ready : goal.turn-pages-requires-clause-ready
turn-pages-requires-clause-ready g c = record {
  own = c.requires.stands.own;
  may = record {
    back = c.carry-done.new.lent;
    back_is = refl;
    lender = InPart c.args.by c.args.from c.args.to;
    may = may_come_back _ _ _ _ _ _ c.args.back c.carry-done.new.lent c.carry-done.result c.requires.stands c.carry-done.ensures.ticket c.carry-done.ensures.block c.carry-done.ensures.parts c.carry-done.ensures.landed c.carry-done.ensures.failed;
    lent_to = (refl, refl);
  };
}

pub returns-clause-stands : goal.returns-clause-stands
returns-clause-stands g c =
    let t = c.turn-pages.ensures.turned in
    let on : GoesOn (seat_view c.args.self.now.seat) (seat_view c.turn-pages.new.seat) = record { cell = c.turn-pages.ensures.same.0; others = t.others; entry = t.entry; seen = t.seen_is } in
    let P : Option (Lender × Lent) → Type 0 = λ l. IsCaller (cell_view c.args.self.now.ground.now.cell) (seat_view c.turn-pages.new.seat) (seat_claims c.turn-pages.new.seat) c.args.self.now.sample l in
    subst P (sym c.requires.free) (gives_back _ _ _ _ _ _ _ c.requires.stands on t.done.claims_are)
