use Rattle.std.proofs.Common.{◌+◌, arith}
use Rattle.io_model.specs.declared.file.Kind.TheVariants.{Hole}
use Rattle.file_stripes.proofs.StripeLemmas.{counted_le, counted_more}
use Rattle.file_stripes.proofs.cutting.count_placed.Goals as goal

pub overflow_add-count : goal.overflow_add-count
overflow_add-count c =
    omega (
      arith,
      counted_le c.args.kinds.now (c.loop-i.i + 1) (c.loop-i.count + c.sectors_for-count.result)
          (counted_more c.args.kinds.now c.loop-i.i Hole c.loop-i.count c.sectors_for-count.result c.loop-i-test.true c.loop-i.invariant c.sectors_for-count.ensures),
    )

pub loop-i-preserved : goal.loop-i-preserved
loop-i-preserved c =
    counted_more c.args.kinds.now c.loop-i.i Hole c.loop-i.count c.sectors_for-count.result c.loop-i-test.true c.loop-i.invariant c.sectors_for-count.ensures
