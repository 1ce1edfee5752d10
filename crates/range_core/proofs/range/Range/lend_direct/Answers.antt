use Rattle.std.proofs.Common.{◌≡◌, ℕ, ◌+◌, ◌-◌, ◌≤◌, length, List, None, sym, ◌∙◌, ap, subst, arith, ◌%◌}
use Rattle.turn_cell.specs.Seats.{seat_claims, seat_view}
use Rattle.turn_cell.specs.Stakes.{total}
use Rattle.iob_base.specs.Parting.{pages_of}
use Rattle.range_core.specs.BlockTruth.{is_gone}
use Rattle.range_core.specs.LendDirects.{CanLendDirect, GoesOut, away_direct, direct_loan}
use Rattle.range_core.specs.Lends.{lent_cell}
use Rattle.range_core.specs.Lookups.{first_kind}
use Rattle.range_core.specs.OnRun.{on_run}
use Rattle.range_core.specs.RangeView.{IsSound, LiesAt, RangeView, cells_from, range_view}
use Rattle.range_core.specs.Refusals.{lend_direct_refusal}
use Rattle.range_core.specs.declared.cell.Cell.{Cell}
use Rattle.range_core.specs.declared.direct_answer.Direct.TheVariants.{Lent as LentOut}
use Rattle.range_core.specs.declared.lending.Lent.{Lent}
use Rattle.range_core.proofs.LendDirectLemmas.{goes_ready, have_sectors, lendable, lent_sound}
use Rattle.range_core.proofs.OnRunLemmas.{length-on_each}
use Rattle.range_core.proofs.SoundLemmas.{gone-within}
use Rattle.range_core.proofs.StampedTruth.{stamped_sound}
use Rattle.range_core.proofs.range.Range.lend_direct.Goals as goal

pub lend_blocks-requires-clause-here : goal.lend_blocks-requires-clause-here
lend_blocks-requires-clause-here c =
    let r = c.self.inside in
    let pages = (pages_of c.args.pages) in
    let view : RangeView = range_view r.geometry r.mode r.first r.cells.items r.log.items r.cookie r.errors r.tickets (seat_view r.seat) (seat_claims r.seat).facts in
    let is = sym c.self.view_is in
    let C : RangeView → Type 0 = λ v. CanLendDirect v c.args.claims.now c.args.seen c.args.op c.args.block pages in
    let can : C view = subst C is c.requires.can in
    let F : RangeView → Type 0 = λ v. lend_direct_refusal v c.args.seen c.args.op c.args.block (length pages) ≡ None in
    let free : F view = subst F is (ap (lend_direct_refusal c.args.self.now c.args.seen c.args.op c.args.block) (sym c.len.ensures.pages) ∙ sym c.in_default.ensures) in
    have_sectors view c.args.claims.now c.args.seen c.args.op c.args.block pages c.self.invariant.0 can (lendable view _ _ _ _ pages can free) (sym c.if-not-is_lent.ensures)

pub invariant_of-self-2 : goal.invariant_of-self-2
invariant_of-self-2 c =
    let r = c.self.inside in
    let pages = (pages_of c.args.pages) in
    let view : RangeView = range_view r.geometry r.mode r.first r.cells.items r.log.items r.cookie r.errors r.tickets (seat_view r.seat) (seat_claims r.seat).facts in
    let is = sym c.self.view_is in
    let C : RangeView → Type 0 = λ v. CanLendDirect v c.args.claims.now c.args.seen c.args.op c.args.block pages in
    let can : C view = subst C is c.requires.can in
    let F : RangeView → Type 0 = λ v. lend_direct_refusal v c.args.seen c.args.op c.args.block (length pages) ≡ None in
    let free : F view = subst F is (ap (lend_direct_refusal c.args.self.now c.args.seen c.args.op c.args.block) (sym c.len.ensures.pages) ∙ sym c.in_default.ensures) in
    let now : List Cell = on_run (lent_cell (away_direct c.args.by c.args.op r.tickets)) (c.args.block - r.first) (length pages) r.cells.items in
    let cells : c.lend_blocks.new.cells.items ≡ now = c.lend_blocks.ensures.cells in
    let S : List Cell → Type 0 = λ cells. IsSound (range_view r.geometry r.mode r.first cells c.reserve.new.self.items r.cookie r.errors ((r.tickets + 1) % 18446744073709551616) (seat_view r.seat) (seat_claims r.seat).facts) in
    let few : total is_gone c.lend_blocks.new.cells.items ≤ length c.lend_blocks.new.cells.items = gone-within c.lend_blocks.new.cells.items in
    let many : length c.lend_blocks.new.cells.items ≡ length r.cells.items = ap length cells ∙ length-on_each (λ _ x. lent_cell (away_direct c.args.by c.args.op r.tickets) x) 0 (c.args.block - r.first) (length pages) r.cells.items in
    let room = c.in-Ok.ensures.ok in (
      subst S (sym cells)
          (lent_sound view c.args.claims.now c.args.seen c.args.op c.args.block pages c.args.by r.tickets _ _ _ _ c.self.invariant.0 can (lendable view _ _ _ _ pages can free) (sym c.if-not-is_lent.ensures) c.reserve.ensures.items),
      omega arith,
    )

pub invariant_of-self-then-not-is_lent : goal.invariant_of-self-then-not-is_lent
invariant_of-self-then-not-is_lent c =
    let r = c.self.inside in
    let pages = (pages_of c.args.pages) in
    let view : RangeView = range_view r.geometry r.mode r.first r.cells.items r.log.items r.cookie r.errors r.tickets (seat_view r.seat) (seat_claims r.seat).facts in
    let L : RangeView → Type 0 = λ v. LiesAt v c.args.block (length pages) in
    let lies : L view = subst L (sym c.self.view_is) c.requires.can.lies in
    let few : total is_gone r.cells.items ≤ length r.cells.items = gone-within r.cells.items in
    let room = c.in-Ok.ensures.ok in
    let n : c.len-then-not-is_lent.result ≡ length pages = c.len-then-not-is_lent.ensures.pages in
    let M : ℕ → Type 0 = λ m. LiesAt view c.args.block m in (
      stamped_sound view _ _ _ _ _ c.self.invariant.0 (subst M (sym n) lies) c.reserve.ensures.items c.add.ensures.items,
      omega arith,
    )

pub returns-clause-ready : goal.returns-clause-ready
returns-clause-ready c =
    let r = c.self.inside in
    let pages = (pages_of c.args.pages) in
    let view : RangeView = range_view r.geometry r.mode r.first r.cells.items r.log.items r.cookie r.errors r.tickets (seat_view r.seat) (seat_claims r.seat).facts in
    let is = sym c.self.view_is in
    let C : RangeView → Type 0 = λ v. CanLendDirect v c.args.claims.now c.args.seen c.args.op c.args.block pages in
    let can : C view = subst C is c.requires.can in
    let F : RangeView → Type 0 = λ v. lend_direct_refusal v c.args.seen c.args.op c.args.block (length pages) ≡ None in
    let free : F view = subst F is (ap (lend_direct_refusal c.args.self.now c.args.seen c.args.op c.args.block) (sym c.len.ensures.pages) ∙ sym c.in_default.ensures) in
    let lent : c.lend_blocks.result ≡ direct_loan view c.args.block pages = c.lend_blocks.ensures.lent in
    let T : Lent → Type 0 = λ l. GoesOut c.args.op (first_kind (cells_from view c.args.block)) (LentOut l) in
    let V : RangeView → Type 0 = λ v. GoesOut c.args.op (first_kind (cells_from v c.args.block)) (LentOut c.lend_blocks.result) in
    subst V c.self.view_is
    (subst T (sym lent) (goes_ready view c.args.claims.now c.args.seen c.args.op c.args.block pages c.self.invariant.0 can (lendable view _ _ _ _ pages can free) (sym c.if-not-is_lent.ensures) (omega (arith, c.len.ensures.pages, c.len.ensures.few))))
