use Rattle.std.proofs.Common.{◌≡◌, ℕ, ◌+◌, ◌-◌, ◌%◌, List, length, All, arith, sym, ap, ◌∙◌, subst}
use Rattle.iob_base.specs.Parting.{pages_of}
use Rattle.iob_base.specs.declared.sector.Page.{Page}
use Rattle.fault_device.specs.Transfer.{CanTransfer}
use Rattle.turn_cell.specs.Seats.{seat_claims, seat_view}
use Rattle.range_core.specs.BlockTruth.{IsWholePage}
use Rattle.range_core.specs.LendReads.{IsColdLoan, IsColdRun, fill_length}
use Rattle.range_core.specs.Lends.{HaveSectors}
use Rattle.range_core.specs.Pages.{IsCachePage}
use Rattle.range_core.specs.RangeView.{RangeView, range_view}
use Rattle.range_core.specs.declared.cell.Cell.{Cell}
use Rattle.range_core.specs.declared.lending.Away.{Away}
use Rattle.range_core.specs.declared.lending.Lender.TheVariants.{Reading}
use Rattle.range_core.specs.declared.lending.Lent.{Lent}
use Rattle.range_core.proofs.LendLemmas.{MayLend, can_transfer, have_sectors, lend_keeps}
use Rattle.range_core.proofs.LendReadLemmas.{cold_lends}
use Rattle.range_core.proofs.range.Range.lend_read.Goals as goal

pub lend_blocks-requires-clause-here : goal.lend_blocks-requires-clause-here
lend_blocks-requires-clause-here c =
    let r = c.self.inside in
    let low : ℕ = c.args.block - c.self.inside.first in
    let cells : List Cell = c.self.inside.cells.items in
    let V : RangeView → Type 0 = λ v. IsColdRun v.cells (c.args.block - v.first) c.in-Ok.n in
    let run : IsColdRun cells low c.in-Ok.n = subst V (sym c.self.view_is) c.in-Ok.ensures.run in
    let many : c.in-Ok.n ≡ length (pages_of c.add_pages.new.parts) = sym c.in-Ok-add_pages.ensures.many in
    let H : ℕ → Type 0 = λ n. HaveSectors cells low n in
    subst H many (have_sectors r.geometry.block_size cells low c.in-Ok.n c.self.invariant.0.places (cold_lends cells low c.in-Ok.n run))

pub invariant_of-self-2 : goal.invariant_of-self-2
invariant_of-self-2 c =
    let r = c.self.inside in
    let low : ℕ = c.args.block - c.self.inside.first in
    let cells : List Cell = c.self.inside.cells.items in
    let V : RangeView → Type 0 = λ v. IsColdRun v.cells (c.args.block - v.first) c.in-Ok.n in
    let run : IsColdRun cells low c.in-Ok.n = subst V (sym c.self.view_is) c.in-Ok.ensures.run in
    let many : c.in-Ok.n ≡ length (pages_of c.add_pages.new.parts) = sym c.in-Ok-add_pages.ensures.many in
    let before : RangeView = range_view r.geometry r.mode r.first cells r.log.items r.cookie r.errors r.tickets (seat_view r.seat) (seat_claims r.seat).facts in
    let away : Away = record { ticket = r.tickets; lender = Reading } in
    lend_keeps before away low c.in-Ok.n (length (pages_of c.add_pages.new.parts)) ((r.tickets + 1) % 18446744073709551616) _ _ c.lend_blocks.new.cells.items c.reserve.new.self.items c.self.invariant.0 (cold_lends cells low c.in-Ok.n run) many
    c.lend_blocks.ensures.cells c.reserve.ensures.items (omega (arith, c.in-Ok-reserve.ensures.ok, c.len.ensures))

-- pages of the cache are whole
whole_pages : (size : ℕ) (pages : List Page) → All (IsCachePage size) pages → All (IsWholePage size) pages
whole_pages size pages kept = λ k d l. (kept k d l).whole

pub returns-clause-ready : goal.returns-clause-ready
returns-clause-ready c =
    let r = c.self.inside in
    let low : ℕ = c.args.block - c.self.inside.first in
    let cells : List Cell = c.self.inside.cells.items in
    let V : RangeView → Type 0 = λ v. IsColdRun v.cells (c.args.block - v.first) c.in-Ok.n in
    let run : IsColdRun cells low c.in-Ok.n = subst V (sym c.self.view_is) c.in-Ok.ensures.run in
    let many : c.in-Ok.n ≡ length (pages_of c.add_pages.new.parts) = sym c.in-Ok-add_pages.ensures.many in
    let size : ℕ = r.geometry.block_size in
    let pages : List Page = (pages_of c.add_pages.new.parts) in
    let M : ℕ → Type 0 = λ n. MayLend cells low n in
    let S : ℕ → Type 0 = λ z. All (IsCachePage z) pages in
    let whole : All (IsWholePage size) pages = whole_pages size pages (subst S c.block_size-size.ensures.value c.in-Ok-add_pages.ensures.pages) in
    let T : Lent → Type 0 = λ lent. CanTransfer lent.parts in
    let some = run.some in
    let few = run.few in
    subst T (sym c.lend_blocks.ensures.lent) (can_transfer size low cells pages c.self.invariant.0.places (subst M many (cold_lends cells low c.in-Ok.n run)) whole (omega arith) (omega arith))

pub returns-clause-lent : goal.returns-clause-lent
returns-clause-lent c =
    let pages : List Page = pages_of c.add_pages.new.parts in
    let S : ℕ → Type 0 = λ z. All (IsCachePage z) pages in
    let V : RangeView → Type 0 = λ v. IsColdLoan v c.args.block c.args.blocks c.lend_blocks.result in
    subst V c.self.view_is (record {
      pages = pages;
      lent_is = c.lend_blocks.ensures.lent;
      many = c.in-Ok-add_pages.ensures.many ∙ c.in-Ok.ensures.count ∙ ap (λ (v : RangeView). fill_length v c.args.block c.args.blocks) (sym c.self.view_is);
      kept = subst S c.block_size-size.ensures.value c.in-Ok-add_pages.ensures.pages;
    })
