use Rattle.std.proofs.Common.{◌≡◌, ℕ, All, get_or, length, sym, ◌∙◌, ap, subst}
use Rattle.iob_base.specs.declared.stamp.Mark.TheVariants.{Done}
use Rattle.range_core.specs.RangeView.{IsOfRange}
use Rattle.range_core.specs.Stamps.{stamps_from}
use Rattle.range_core.specs.declared.stamp_run.StampRun.{StampRun}
use Rattle.range_core.proofs.StampLemmas.{journaled-nil, length-journaled}
use Rattle.range_core.proofs.StampRunLemmas.{expanded-each, runs-more}
use Rattle.range_core.proofs.stamps.write_journals.Goals as goal

abbrev none : StampRun
none = record { first = 0; count = 0; stamp = record { caller = 0; call = 0; mark = Done } }

pub loop-run-init : goal.loop-run-init
loop-run-init c = sym (journaled-nil c.args.first c.args.ends.now.items)

pub write_run-requires : goal.write_run-requires
write_run-requires c =
    let run : StampRun = get_or c.args.runs.now c.loop-run.run-index none in
    let as_many : length c.loop-run.ends.items ≡ length c.args.ends.now.items = ap length c.loop-run.invariant ∙ length-journaled _ _ c.args.ends.now.items in
    let L : ℕ → Type 0 = λ n. All (IsOfRange c.args.first n) (stamps_from run.first run.count run.stamp) in
    subst L (sym as_many) (expanded-each (IsOfRange c.args.first (length c.args.ends.now.items)) c.args.runs.now c.loop-run.run-index none c.requires c.loop-run-test.true)

pub loop-run-preserved : goal.loop-run-preserved
loop-run-preserved c = runs-more c.args.first c.loop-run.run-index c.args.runs.now none c.args.ends.now.items c.loop-run.ends.items _ c.loop-run-test.true c.loop-run.invariant c.in_ok-write_run.ensures
