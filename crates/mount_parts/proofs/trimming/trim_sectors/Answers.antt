use Rattle.std.specs.Vec.Iter.{into_iter_items}
use Rattle.file_stripes.specs.Kinds.{kinds_from}
use Rattle.mount_parts.proofs.Trimmings.{trims-next}
use Rattle.mount_parts.proofs.trimming.trim_sectors.Goals as goal

pub loop-i-preserved : goal.loop-i-preserved
loop-i-preserved c =
    trims-next c.args.size c.args.end c.args.first c.loop-i.i c.args.blocks c.args.extents.now (kinds_from c.args.extents.now c.args.first c.args.blocks) c.kind_of-kind.result c.loop-i.done.items c.trim_next.new.done.items
    (into_iter_items c.loop-i.rest) (into_iter_items c.trim_next.new.rest) (into_iter_items c.into_iter-rest.result) c.loop-i.invariant c.loop-i-test.true c.kind_of-kind.ensures c.in_ok-trim_next.ensures.done c.in_ok-trim_next.ensures.rest
