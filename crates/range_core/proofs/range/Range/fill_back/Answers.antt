use Rattle.std.proofs.Common.{ℕ, List, sym, ap, ◌∙◌, subst}
use Rattle.std.specs.Prelude.{slice_get}
use Rattle.iob_base.specs.declared.stamp.Op.TheVariants.{Read}
use Rattle.iob_base.specs.declared.part.Part.{Part}
use Rattle.turn_cell.specs.Seats.{seat_claims, seat_view}
use Rattle.range_core.specs.LendReads.{filled_of}
use Rattle.range_core.specs.RangeView.{RangeView, range_view}
use Rattle.range_core.specs.Returning.{AreOut}
use Rattle.range_core.specs.declared.cell.Cell.{Cell}
use Rattle.range_core.specs.declared.lending.Held.{Held}
use Rattle.range_core.proofs.LendReadLemmas.{filled_home}
use Rattle.range_core.proofs.ReturnHomeLemmas.{AllHome, at_claim, returned_keeps}
use Rattle.range_core.proofs.range.Range.fill_back.Goals as goal

pub invariant_of-self : goal.invariant_of-self
invariant_of-self c =
    let r = c.self.inside in
    let h : Held = c.requires.claim in
    let parts : List Part = c.args.back.parts in
    let before : RangeView = range_view r.geometry r.mode r.first r.cells.items r.log.items r.cookie r.errors r.tickets (seat_view r.seat) (seat_claims r.seat).facts in
    let O : RangeView → Type 0 = λ v. AreOut v h in
    let out : AreOut before h = subst O (sym c.self.view_is) c.requires.out in
    let f : ℕ → Cell → Cell = filled_of c.args.done.failed parts in
    let home : AllHome before h Read c.args.done.landed f = λ k x part l at. filled_home c.args.done.failed parts k x part (ap (λ ps. slice_get ps k) c.requires.is_return.parts ∙ at) in
    returned_keeps before h Read c.args.done.landed f c.args.back c.fill_run_back.new.cells.items r.cookie r.errors _ _ c.self.invariant.0 out home (at_claim r.first _ h Read c.args.back c.args.done c.requires.is_return) c.fill_run_back.ensures.cells c.self.invariant.1
