use Rattle.std.proofs.Common.{◌≡◌, ℕ, ◌+◌, ◌-◌, ◌%◌, List, length, map, take, drop, All, arith, sym, ap, ◌∙◌, subst}
use Rattle.iob_base.specs.Parting.{pages_of}
use Rattle.iob_base.specs.declared.sector.Page.{Page}
use Rattle.fault_device.specs.Transfer.{CanTransfer}
use Rattle.turn_cell.specs.Seats.{seat_claims, seat_view}
use Rattle.range_core.specs.BlockTruth.{IsWholePage}
use Rattle.range_core.specs.LendWritebacks.{IsDirtyRun, IsWritable, page_copy}
use Rattle.range_core.specs.Lends.{HaveSectors}
use Rattle.range_core.specs.RangeView.{RangeView, range_view}
use Rattle.range_core.specs.declared.cell.Cell.{Cell}
use Rattle.range_core.specs.declared.lending.Away.{Away}
use Rattle.range_core.specs.declared.lending.Lender.TheVariants.{Writeback}
use Rattle.range_core.specs.declared.lending.Lent.{Lent}
use Rattle.range_core.proofs.LendLemmas.{MayLend, can_transfer, have_sectors, lend_keeps}
use Rattle.range_core.proofs.LendWritebackLemmas.{dirty_lends, copies-length, copies_whole}
use Rattle.range_core.proofs.range.Range.lend_writeback.Goals as goal

pub lend_blocks-requires-clause-here : goal.lend_blocks-requires-clause-here
lend_blocks-requires-clause-here c =
    let r = c.self.inside in
    let low : ℕ = c.args.block - c.self.inside.first in
    let cells : List Cell = c.self.inside.cells.items in
    let V : RangeView → Type 0 = λ v. IsDirtyRun v.cells (c.args.block - v.first) c.in-Ok.n in
    let run : IsDirtyRun cells low c.in-Ok.n = subst V (sym c.self.view_is) c.in-Ok.ensures.run in
    let copies : (pages_of c.add_copies.new.parts) ≡ map page_copy (take c.in-Ok.n (drop low cells)) = c.in-Ok-add_copies.ensures.copies ∙ ap (λ l. map page_copy (take c.in-Ok.n (drop low l))) c.deref.ensures.value in
    let many : c.in-Ok.n ≡ length (pages_of c.add_copies.new.parts) = sym (ap length copies ∙ copies-length low c.in-Ok.n cells run.within) in
    let H : ℕ → Type 0 = λ n. HaveSectors cells low n in
    subst H many (have_sectors r.geometry.block_size cells low c.in-Ok.n c.self.invariant.0.places (dirty_lends cells low c.in-Ok.n run))

pub invariant_of-self-2 : goal.invariant_of-self-2
invariant_of-self-2 c =
    let r = c.self.inside in
    let low : ℕ = c.args.block - c.self.inside.first in
    let cells : List Cell = c.self.inside.cells.items in
    let V : RangeView → Type 0 = λ v. IsDirtyRun v.cells (c.args.block - v.first) c.in-Ok.n in
    let run : IsDirtyRun cells low c.in-Ok.n = subst V (sym c.self.view_is) c.in-Ok.ensures.run in
    let copies : (pages_of c.add_copies.new.parts) ≡ map page_copy (take c.in-Ok.n (drop low cells)) = c.in-Ok-add_copies.ensures.copies ∙ ap (λ l. map page_copy (take c.in-Ok.n (drop low l))) c.deref.ensures.value in
    let many : c.in-Ok.n ≡ length (pages_of c.add_copies.new.parts) = sym (ap length copies ∙ copies-length low c.in-Ok.n cells run.within) in
    let before : RangeView = range_view r.geometry r.mode r.first cells r.log.items r.cookie r.errors r.tickets (seat_view r.seat) (seat_claims r.seat).facts in
    let away : Away = record { ticket = r.tickets; lender = Writeback } in
    lend_keeps before away low c.in-Ok.n (length (pages_of c.add_copies.new.parts)) ((r.tickets + 1) % 18446744073709551616) _ _ c.lend_blocks.new.cells.items c.reserve.new.self.items c.self.invariant.0 (dirty_lends cells low c.in-Ok.n run) many
    c.lend_blocks.ensures.cells c.reserve.ensures.items (omega (arith, c.in-Ok-reserve.ensures.ok, c.len.ensures))

pub returns-clause-ready : goal.returns-clause-ready
returns-clause-ready c =
    let r = c.self.inside in
    let low : ℕ = c.args.block - c.self.inside.first in
    let cells : List Cell = c.self.inside.cells.items in
    let V : RangeView → Type 0 = λ v. IsDirtyRun v.cells (c.args.block - v.first) c.in-Ok.n in
    let run : IsDirtyRun cells low c.in-Ok.n = subst V (sym c.self.view_is) c.in-Ok.ensures.run in
    let copies : (pages_of c.add_copies.new.parts) ≡ map page_copy (take c.in-Ok.n (drop low cells)) = c.in-Ok-add_copies.ensures.copies ∙ ap (λ l. map page_copy (take c.in-Ok.n (drop low l))) c.deref.ensures.value in
    let many : c.in-Ok.n ≡ length (pages_of c.add_copies.new.parts) = sym (ap length copies ∙ copies-length low c.in-Ok.n cells run.within) in
    let size : ℕ = r.geometry.block_size in
    let pages : List Page = (pages_of c.add_copies.new.parts) in
    let M : ℕ → Type 0 = λ n. MayLend cells low n in
    let W : RangeView → Type 0 = λ v. All (IsWritable v.geometry.block_size) v.cells in
    let writable : All (IsWritable size) cells = subst W (sym c.self.view_is) c.requires.writable in
    let A : List Page → Type 0 = λ xs. All (IsWholePage size) xs in
    let whole : All (IsWholePage size) pages = subst A (sym copies) (copies_whole size low c.in-Ok.n cells writable run) in
    let T : Lent → Type 0 = λ lent. CanTransfer lent.parts in
    let some = run.some in
    let few = run.few in
    subst T (sym c.lend_blocks.ensures.lent) (can_transfer size low cells pages c.self.invariant.0.places (subst M many (dirty_lends cells low c.in-Ok.n run)) whole (omega arith) (omega arith))
