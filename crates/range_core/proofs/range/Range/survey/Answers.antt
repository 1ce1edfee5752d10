use Rattle.std.proofs.Common.{◌≡◌, ◌≤◌, ◌-◌, length, drop, sym, ap, subst, arith}
use Rattle.range_core.specs.Lookups.{extent_at}
use Rattle.range_core.specs.RangeView.{RangeView, cells_from}
use Rattle.range_core.specs.declared.sample.Sample.{Sample}
use Rattle.range_core.proofs.LiesLemmas.{extent_within}
use Rattle.range_core.proofs.range.Range.survey.Goals as goal
use Rattle.range_core.proofs.SurveyLemmas.{tail_fits}

pub dirty_bits-requires-clause-within : goal.dirty_bits-requires-clause-within
dirty_bits-requires-clause-within c =
    let same : c.sample-sample.result.extent.length ≡ (extent_at c.args.self.now c.args.block c.args.most).length = ap (λ (s : Sample). s.extent.length) c.sample-sample.ensures in
    let W : RangeView → Type 0 = λ r. c.sample-sample.result.extent.length ≤ length (cells_from r c.args.block) in
    let most : c.sample-sample.result.extent.length ≤ length (drop (c.args.block - c.self.inside.first) c.self.inside.cells.items) =
    subst W (sym c.self.view_is) (omega (arith, same, (extent_within c.args.self.now c.args.block c.args.most).0)) in
    tail_fits c.sample-sample.result.extent.length (c.args.block - c.self.inside.first) c.self.inside.cells.items c.deref.result.now most c.deref.ensures.value

pub dirty_bits-requires-clause-few : goal.dirty_bits-requires-clause-few
dirty_bits-requires-clause-few c =
    let same : c.sample-sample.result.extent.length ≡ (extent_at c.args.self.now c.args.block c.args.most).length = ap (λ (s : Sample). s.extent.length) c.sample-sample.ensures in
    omega (arith, same, (extent_within c.args.self.now c.args.block c.args.most).1)
