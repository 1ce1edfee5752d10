use Rattle.std.proofs.Common.{arith}
use Rattle.range_core.proofs.LeadingLemmas.{leading-end}
use Rattle.range_core.proofs.leading.leading_run.Goals as goal

pub returns : goal.returns
returns g c = leading-end (g.T.Joins.joins c.args.test.now) c.min-end.result c.loop-i.i c.args.most c.args.cells.now _ c.loop-i.invariant.passes c.loop-i.invariant.end_is (omega arith)
