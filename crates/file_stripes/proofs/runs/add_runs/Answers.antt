use Rattle.file_stripes.proofs.RunsLemmas.{follows_more, follows_short, no_extent}
use Rattle.file_stripes.proofs.runs.add_runs.Goals as goal

pub add_run-requires-clause-short : goal.add_run-requires-clause-short
add_run-requires-clause-short c = (follows_short c.loop-i.extents.items c.args.runs.now c.loop-i.i no_extent c.loop-i-test.true c.loop-i.invariant.0).0

pub add_run-requires-clause-more : goal.add_run-requires-clause-more
add_run-requires-clause-more c = (follows_short c.loop-i.extents.items c.args.runs.now c.loop-i.i no_extent c.loop-i-test.true c.loop-i.invariant.0).1

pub loop-i-preserved : goal.loop-i-preserved
loop-i-preserved c =
    follows_more c.loop-i.extents.items c.args.runs.now _ c.args.extents.now.items c.args.runs.now c.loop-i.i no_extent c.loop-i-test.true c.in_ok-add_run.ensures
    c.loop-i.invariant.0 c.loop-i.invariant.1
