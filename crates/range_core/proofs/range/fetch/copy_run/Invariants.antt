use Rattle.std.proofs.Common.{◌≡◌}
use Rattle.iov_iter.specs.IovView.{written_on}
use Rattle.range_core.specs.ByteRuns.{gathered}
use Rattle.range_core.specs.Paging.{cached_at}
use Rattle.range_core.proofs.range.fetch.copy_run.Given as goal

abbrev pub invariant-loop-k : goal.invariant-loop-k
invariant-loop-k l = l.iov ≡ written_on (gathered l.run (cached_at l.first l.cells.items) l.run.first l.k) l.initial.iov
