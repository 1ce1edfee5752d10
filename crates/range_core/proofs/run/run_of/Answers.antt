use Rattle.std.proofs.Common.{arith, sym, ◌∙◌}
use Rattle.range_core.proofs.RunLemmas.{run_from-stop, run_from-more, run_from-end}
use Rattle.range_core.proofs.run.run_of.Goals as goal

pub returns-then-not-continues : goal.returns-then-not-continues
returns-then-not-continues c =
    run_from-stop c.args.kind c.loop-i.i c.args.most c.args.cells.now c.index-cells-i.result _
    c.loop-i.invariant.1 (omega arith) (omega arith) (sym c.continues.ensures ∙ c.if-not-continues.true)

pub loop-i-preserved : goal.loop-i-preserved
loop-i-preserved c = (
  c.loop-i.invariant.0,
  run_from-more c.args.kind c.loop-i.i c.args.most c.args.cells.now c.index-cells-i.result _
      c.loop-i.invariant.1 (omega arith) (omega arith) (sym c.continues.ensures ∙ c.if-not-continues.false),
)

pub returns : goal.returns
returns c = run_from-end c.args.kind c.min-end.result c.loop-i.i c.args.most c.args.cells.now _ c.loop-i.invariant.1 c.loop-i.invariant.0 (omega arith)
