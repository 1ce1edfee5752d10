use Rattle.std.proofs.Common.{◌≡◌, length}
use Rattle.iomap_run.proofs.main.Given as goal

abbrev pub invariant-loop : goal.invariant-loop
invariant-loop g l = length l.fates.items ≡ l.counter
