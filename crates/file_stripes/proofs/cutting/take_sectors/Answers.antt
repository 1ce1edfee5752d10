use Rattle.std.specs.Vec.Iter.{into_iter_items}
use Rattle.file_stripes.proofs.StripeLemmas.{taken_more}
use Rattle.file_stripes.proofs.cutting.take_sectors.Goals as goal

pub loop-preserved : goal.loop-preserved
loop-preserved c =
    taken_more c.loop.counter (into_iter_items c.args.held.now) (into_iter_items c.loop.held) c.loop.sectors.items _ _
    c.loop.invariant.0 c.loop.invariant.1 c.in_ok-next_sector.ensures.taken c.in_ok-next_sector.ensures.rest
