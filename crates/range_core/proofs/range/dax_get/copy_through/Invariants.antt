use Rattle.std.proofs.Common.{◌≡◌}
use Rattle.iov_iter.specs.IovView.{written_on}
use Rattle.range_core.specs.ByteRuns.{gathered}
use Rattle.range_core.specs.DaxGets.{stored_at}
use Rattle.range_core.proofs.range.dax_get.copy_through.Given as goal

abbrev pub invariant-loop-k : goal.invariant-loop-k
invariant-loop-k l = l.iov ≡ written_on (gathered l.run (stored_at l.run.size l.first l.cells.items) l.run.first l.k) l.initial.iov
