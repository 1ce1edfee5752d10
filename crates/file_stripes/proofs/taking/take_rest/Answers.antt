use Rattle.file_stripes.proofs.TakingLemmas.{somes_more}
use Rattle.file_stripes.proofs.taking.take_rest.Goals as goal

pub loop-place-preserved : goal.loop-place-preserved
loop-place-preserved c = somes_more c.loop-place.yielded c.in-Some.place c.loop-place.free.items _ c.loop-place.invariant c.in_ok-keep_sector.ensures
