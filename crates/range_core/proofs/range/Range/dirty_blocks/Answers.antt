use Rattle.std.proofs.Common.{◌≡◌, ℕ, ◌-◌, ◌<◌, None, List, All, length, drop, arith, sym, ap, ◌∙◌, subst}
use Rattle.range_core.specs.RangeView.{LiesAt, RangeView}
use Rattle.range_core.specs.Refusals.{◌orElse◌, away, not_ready}
use Rattle.range_core.specs.LendWritebacks.{IsDirtyRun, IsWritable, write_run}
use Rattle.range_core.specs.declared.cell.Cell.{Cell}
use Rattle.range_core.proofs.StopLemmas.{never_some}
use Rattle.range_core.proofs.LendWritebackLemmas.{dirty_run}
use Rattle.range_core.proofs.range.Range.dirty_blocks.Goals as goal

pub returns-clause-run : goal.returns-clause-run
returns-clause-run c =
    let at : ℕ = c.args.block - c.self.inside.first in
    let cells : List Cell = c.self.inside.cells.items in
    let size : ℕ = c.self.inside.geometry.block_size in
    let L : RangeView → Type 0 = λ r. LiesAt r c.args.block c.args.blocks in
    let W : RangeView → Type 0 = λ r. All (IsWritable r.geometry.block_size) r.cells in
    let V : RangeView → Type 0 = λ r. IsDirtyRun r.cells (c.args.block - r.first) c.dirty_run.result in
    let lies = subst L (sym c.self.view_is) c.requires.lies in
    let writable : All (IsWritable size) cells = subst W (sym c.self.view_is) c.requires.writable in
    let low : at < length cells = omega (arith, lies.low, lies.some, lies.high) in
    let free : away c.args.block c.index-cell.result.now orElse not_ready c.args.block c.index-cell.result.now ≡ None = sym c.is_not_dirty.ensures ∙ never_some c.is_not_dirty.result c.in_default.not-Some in
    let count : c.dirty_run.result ≡ write_run (drop at cells) c.most_lent-most.result = c.dirty_run.ensures ∙ ap (λ l. write_run (drop at l) c.most_lent-most.result) c.deref.ensures.value in
    let run : IsDirtyRun cells at c.dirty_run.result = dirty_run size cells at c.most_lent-most.result c.dirty_run.result c.args.block c.index-cell.result.now writable count low (c.most_lent-most.ensures.some c.requires.lies.some) c.most_lent-most.ensures.few c.index-cell.ensures free in
    subst V c.self.view_is run
