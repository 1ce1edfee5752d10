use Rattle.std.proofs.Common.{below_more, arith}
use Rattle.io_model.specs.declared.script.Call.{Call}
use Rattle.io_script.specs.Ranges.{IsWord}
use Rattle.io_script.proofs.Items.{holds_of}
use Rattle.io_script.proofs.ranges.numbers_of_first_pages.Goals as goal

pub loop-i-preserved : goal.loop-i-preserved
loop-i-preserved c =
    below_more _ _ c.loop-i.invariant
    (λ d. holds_of (λ (call : Call). IsWord call.first_page) c.args.calls.now c.loop-i.i c.index-calls-i.result d c.loop-i-test.true c.index-calls-i.is c.number_of_first_page.ensures)

pub returns : goal.returns
returns c = λ k d lt. c.loop-i.invariant k (omega arith) d
