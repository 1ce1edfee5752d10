use Rattle.worked_ranges.proofs.EndLemmas.{pushed_more}
use Rattle.worked_ranges.proofs.closing.push_ends.Goals as goal

pub loop-end-preserved : goal.loop-end-preserved
loop-end-preserved c = pushed_more c.args.numbers.now.items c.loop-end.numbers.items _ c.loop-end.yielded c.in-Some.end c.loop-end.invariant c.in_ok-push_end.ensures
