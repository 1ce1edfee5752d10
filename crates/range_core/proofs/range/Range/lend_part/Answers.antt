use Rattle.std.proofs.Common.{sym, ap, ◌∙◌}
use Rattle.iob_base.specs.Parting.{pages_of}
use Rattle.range_core.specs.ByteRuns.{run_between}
use Rattle.range_core.specs.RangeView.{RangeView}
use Rattle.range_core.proofs.LendPartTruth.{part_open}
use Rattle.range_core.proofs.range.Range.lend_part.Goals as goal

pub lend_run_part-requires-clause-able : goal.lend_run_part-requires-clause-able
lend_run_part-requires-clause-able c =
    part_open c.args.self.now c.args.claims.now c.args.seen c.args.from c.args.to (pages_of c.args.page) c.byte_run-run.result (c.byte_run-run.ensures.run ∙ ap (λ (v : RangeView). run_between v.geometry.block_size c.args.from c.args.to) c.self.view_is)
    c.requires.can c.requires.pages (sym c.in_default.ensures)
