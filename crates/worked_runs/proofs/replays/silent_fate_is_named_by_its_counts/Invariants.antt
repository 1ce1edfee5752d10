use Rattle.std.proofs.Common.{◌≡◌, length}
use Rattle.worked_runs.proofs.replays.silent_fate_is_named_by_its_counts.Given as goal

abbrev pub invariant-loop : goal.invariant-loop
invariant-loop g l = length l.fates.items ≡ l.counter
