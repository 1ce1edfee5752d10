use Rattle.file_stripes.proofs.PlacedLemmas.{placed_more}
use Rattle.file_stripes.proofs.runs.keep_placed.Goals as goal

pub loop-i-preserved : goal.loop-i-preserved
loop-i-preserved c = placed_more c.args.extents.now c.loop-i.i _ c.loop-i.kept.items _ c.loop-i-test.true c.loop-i.invariant c.in_ok-keep_run.ensures
