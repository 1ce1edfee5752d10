use Rattle.std.proofs.Common.{◌≡◌, length}
use Rattle.worked_runs.proofs.replays.rows_are_replayed.Given as goal

abbrev pub invariant-loop : goal.invariant-loop
invariant-loop g l = length l.fates.items ≡ l.counter
