use Rattle.std.proofs.Common.{ap, length, arith}
use Rattle.std.specs.Vec.Iter.{into_iter_items}
use Rattle.file_stripes.proofs.EndLemmas.{joining_follows, joining_more}
use Rattle.file_stripes.proofs.joining.join_ends.Goals as goal

pub join_end-requires : goal.join_end-requires
join_end-requires c =
    joining_follows (into_iter_items c.into_iter-rest.result) (into_iter_items c.loop.rest) (into_iter_items c.next.new.self) c.in-Some.end c.loop.extents.items c.loop.blocks.items
    c.in-Some.ensures.items c.loop.invariant.0

pub loop-preserved : goal.loop-preserved
loop-preserved c = (
  joining_more (into_iter_items c.into_iter-rest.result) (into_iter_items c.loop.rest) (into_iter_items c.next.new.self) c.in-Some.end c.loop.extents.items c.join_end.new.extents.items
      c.loop.blocks.items c.join_end.new.blocks.items c.in-Some.ensures.items c.loop.invariant.0 c.in_ok-join_end.ensures.extents c.in_ok-join_end.ensures.blocks,
  omega (arith, c.loop.invariant.1, ap length c.in-Some.ensures.items),
)
