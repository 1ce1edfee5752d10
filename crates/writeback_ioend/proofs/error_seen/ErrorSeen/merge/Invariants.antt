use Rattle.std.proofs.Common.{◌≡◌}
use Rattle.writeback_ioend.proofs.Merging.{greater_of_first}
use Rattle.writeback_ioend.proofs.error_seen.ErrorSeen.merge.Given as goal

abbrev pub invariant-loop-place : goal.invariant-loop-place
invariant-loop-place l = l.self-inside.counts.items ≡ greater_of_first l.place l.initial.self-inside.counts.items l.other-inside.counts.items
