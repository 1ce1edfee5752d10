use Rattle.std.proofs.Common.{◌+◌, arith}
use Rattle.range_core.proofs.MergeLemmas.{merged-short, merged_more}
use Rattle.range_core.proofs.merge.merge_kinds.Goals as goal

pub join_block-requires : goal.join_block-requires
join_block-requires c = merged-short c.args.first (c.args.first + c.loop-i.i) c.loop-i.extents.items c.loop-i.invariant.0 (omega arith)

pub loop-i-preserved : goal.loop-i-preserved
loop-i-preserved c =
    merged_more c.args.first c.loop-i.i c.loop-i.extents.items _ c.args.cells.now c.index-cells-i.result
    c.loop-i.invariant.0 c.loop-i-test.true c.loop-i.invariant.1 c.in_ok-join_block.ensures
