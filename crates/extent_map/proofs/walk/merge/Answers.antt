use Rattle.std.proofs.Common.{arith}
use Rattle.io_model.specs.declared.file.Kind.TheVariants.{Hole}
use Rattle.extent_map.proofs.Walking.{merging_all, merging_more}
use Rattle.extent_map.proofs.walk.merge.Goals as goal

pub loop-i-preserved : goal.loop-i-preserved
loop-i-preserved c =
    merging_more c.args.kinds.now c.loop-i.i c.loop-i.extents.items c.add_block.new.extents.items c.kind_at.result Hole c.loop-i-test.true c.loop-i.invariant
    c.kind_at.ensures.kind c.kind_at.ensures.fits c.in_ok-add_block.ensures

pub returns : goal.returns
returns c = merging_all c.args.kinds.now c.loop-i.i c.loop-i.extents.items (omega arith) c.loop-i.invariant
