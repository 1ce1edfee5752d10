use Rattle.std.proofs.Common.{◌≡◌, ℕ, ◌+◌, ◌-◌, ◌≤◌, ◌%◌, Some, List, length, map, All, arith, sym, ap, ◌∙◌, subst}
use Rattle.iob_base.specs.Parting.{pages_of}
use Rattle.iob_base.specs.declared.sector.Page.{Page}
use Rattle.fault_device.specs.Transfer.{CanTransfer}
use Rattle.turn_cell.specs.Seats.{seat_claims, seat_view}
use Rattle.range_core.specs.BlockTruth.{IsWholePage}
use Rattle.range_core.specs.ByteRuns.{IsRunIn}
use Rattle.range_core.specs.LendParts.{IsOpenPart, around_in, with_around}
use Rattle.range_core.specs.RangeView.{RangeView, range_view}
use Rattle.range_core.specs.declared.cell.Cell.{Cell}
use Rattle.range_core.specs.declared.lending.Away.{Away}
use Rattle.range_core.specs.declared.lending.Lender.TheVariants.{Part as InPart}
use Rattle.range_core.specs.declared.lending.Lent.{Lent}
use Rattle.range_core.proofs.AroundLemmas.{laid_whole, length-around_in, open_lends}
use Rattle.range_core.proofs.LendLemmas.{MayLend, can_transfer, lend_keeps}
use Rattle.std.proofs.lemmas.List.{length-map}
use Rattle.std.proofs.lemmas.Option.{slice_get-get_or}
use Rattle.range_core.proofs.range.Range.lend_run_part.Goals as goal

-- the one page goes out
many_is : (c : goal.After-lend_blocks) → length (pages_of c.list_around-page.result) ≡ 1
many_is c = ap length c.list_around-page.ensures ∙ length-map (pages_of c.args.page) (with_around c.block_part.result (around_in c.args.run.size c.index.result.now)) ∙ c.requires.able.one

pub invariant_of-self-2 : goal.invariant_of-self-2
invariant_of-self-2 c =
    let r = c.self.inside in
    let low : ℕ = c.args.run.first - r.first in
    let before : RangeView = range_view r.geometry r.mode r.first r.cells.items r.log.items r.cookie r.errors r.tickets (seat_view r.seat) (seat_claims r.seat).facts in
    let V : RangeView → Type 0 = λ v. IsRunIn v c.args.run in
    let O : RangeView → Type 0 = λ v. IsOpenPart v c.args.run (pages_of c.args.page) in
    let may : MayLend r.cells.items low 1 = open_lends before c.args.run (pages_of c.args.page) (subst V (sym c.self.view_is) c.requires.run) (subst O (sym c.self.view_is) c.requires.able) in
    let away : Away = record { ticket = r.tickets; lender = InPart c.args.by c.args.run.from c.args.run.to } in
    lend_keeps before away low 1 (length (pages_of c.list_around-page.result)) ((r.tickets + 1) % 18446744073709551616) _ _ c.lend_blocks.new.cells.items c.reserve.new.self.items c.self.invariant.0 may (sym (many_is c))
    c.lend_blocks.ensures.cells c.reserve.ensures.items (omega (arith, c.in-Ok.ensures.ok, c.len.ensures))

pub returns-clause-ready : goal.returns-clause-ready
returns-clause-ready c =
    let r = c.self.inside in
    let low : ℕ = c.args.run.first - r.first in
    let before : RangeView = range_view r.geometry r.mode r.first r.cells.items r.log.items r.cookie r.errors r.tickets (seat_view r.seat) (seat_claims r.seat).facts in
    let V : RangeView → Type 0 = λ v. IsRunIn v c.args.run in
    let O : RangeView → Type 0 = λ v. IsOpenPart v c.args.run (pages_of c.args.page) in
    let run : V before = subst V (sym c.self.view_is) c.requires.run in
    let able : O before = subst O (sym c.self.view_is) c.requires.able in
    let may : MayLend r.cells.items low 1 = open_lends before c.args.run (pages_of c.args.page) run able in
    let size : ℕ = r.geometry.block_size in
    let same : c.args.run.size ≡ size = ap (λ x. x.size) run.is in
    let M : ℕ → Type 0 = λ n. MayLend r.cells.items low n in
    let cell : Cell = c.index.result.now in
    let within : low + 1 ≤ length r.cells.items = may.within in
    let there = slice_get-get_or r.cells.items low cell (omega arith) in
    let here = able.block cell (there ∙ ap Some (sym c.index.ensures)) in
    let W : List Page → Type 0 = λ ps. All (IsWholePage size) ps in
    let L : ℕ → Type 0 = λ s. All (IsWholePage size) (map (with_around c.block_part.result (around_in s cell)) (pages_of c.args.page)) in
    let whole : W (pages_of c.list_around-page.result) =
    subst W (sym c.list_around-page.ensures) (subst L (sym same) (laid_whole size c.block_part.result (around_in size cell) (pages_of c.args.page) (omega (arith, c.block_part.ensures.within)) (length-around_in size cell here.page) able.one able.whole)) in
    let T : Lent → Type 0 = λ lent. CanTransfer lent.parts in
    let many = many_is c in
    subst T (sym c.lend_blocks.ensures.lent) (can_transfer size low r.cells.items (pages_of c.list_around-page.result) c.self.invariant.0.places (subst M (sym many) may) whole (omega arith) (omega arith))
