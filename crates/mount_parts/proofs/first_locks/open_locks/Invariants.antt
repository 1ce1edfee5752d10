use Rattle.std.proofs.Common.{◌≡◌, length}
use Rattle.mount_parts.specs.Locks.{AreFresh}
use Rattle.mount_parts.proofs.first_locks.open_locks.Given as goal

abbrev pub invariant-loop : goal.invariant-loop
invariant-loop l = record {
  count : length l.locks.items ≡ l.counter;
  fresh : AreFresh l.locks.items l.seats.items;
}
