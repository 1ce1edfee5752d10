use Rattle.std.proofs.Common.{below_more, arith}
use Rattle.io_script.specs.Ranges.{IsBlockInRange}
use Rattle.io_script.proofs.Items.{holds_of}
use Rattle.io_script.proofs.ranges.numbers_of_blocks.Goals as goal

pub loop-i-preserved : goal.loop-i-preserved
loop-i-preserved c =
    below_more _ _ c.loop-i.invariant
    (λ d. holds_of IsBlockInRange c.args.blocks.now c.loop-i.i c.index-blocks-i.result d c.loop-i-test.true c.index-blocks-i.is c.numbers_of_block.ensures)

pub returns-clause-all : goal.returns-clause-all
returns-clause-all c = λ k d lt. c.loop-i.invariant k (omega arith) d
