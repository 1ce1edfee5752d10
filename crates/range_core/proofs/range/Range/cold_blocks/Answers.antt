use Rattle.std.proofs.Common.{◌≡◌, ℕ, ◌-◌, ◌<◌, None, List, length, drop, arith, sym, ap, ◌∙◌, subst}
use Rattle.range_core.specs.LendReads.{IsColdRun, fill_run}
use Rattle.range_core.specs.RangeView.{LiesAt, RangeView}
use Rattle.range_core.specs.Refusals.{◌orElse◌, away, warm}
use Rattle.range_core.specs.declared.cell.Cell.{Cell}
use Rattle.range_core.proofs.LendReadLemmas.{cold_run}
use Rattle.range_core.proofs.StopLemmas.{never_some}
use Rattle.range_core.proofs.range.Range.cold_blocks.Goals as goal

pub returns-clause-run : goal.returns-clause-run
returns-clause-run c =
    let at : ℕ = c.args.block - c.self.inside.first in
    let cells : List Cell = c.self.inside.cells.items in
    let L : RangeView → Type 0 = λ r. LiesAt r c.args.block c.args.blocks in
    let V : RangeView → Type 0 = λ r. IsColdRun r.cells (c.args.block - r.first) c.cold_run.result in
    let lies = subst L (sym c.self.view_is) c.requires in
    let low : at < length cells = omega (arith, lies.low, lies.some, lies.high) in
    let free : away c.args.block c.index.result.now orElse warm c.args.block c.index.result.now ≡ None = sym c.is_not_cold.ensures ∙ never_some c.is_not_cold.result c.in_default.not-Some in
    let count : c.cold_run.result ≡ fill_run (drop at cells) c.most_lent-most.result = c.cold_run.ensures ∙ ap (λ l. fill_run (drop at l) c.most_lent-most.result) c.deref.ensures.value in
    let run : IsColdRun cells at c.cold_run.result = cold_run cells at c.most_lent-most.result c.cold_run.result c.args.block c.index.result.now count low (c.most_lent-most.ensures.some c.requires.some) c.most_lent-most.ensures.few c.index.ensures free in
    subst V c.self.view_is run
