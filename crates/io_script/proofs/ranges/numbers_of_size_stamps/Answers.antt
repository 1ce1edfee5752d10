use Rattle.std.proofs.Common.{below_more, arith}
use Rattle.io_script.specs.Ranges.{IsSizeStampInRange}
use Rattle.io_script.proofs.Items.{holds_there}
use Rattle.io_script.proofs.ranges.numbers_of_size_stamps.Goals as goal

pub loop-stamp-preserved : goal.loop-stamp-preserved
loop-stamp-preserved c =
    below_more _ _ c.loop-stamp.invariant (λ d. holds_there IsSizeStampInRange c.args.stamps.now c.loop-stamp.stamp-index _ d c.loop-stamp-test.true c.numbers_of_size_stamp.ensures)

pub returns : goal.returns
returns c = λ k d lt. c.loop-stamp.invariant k (omega arith) d
