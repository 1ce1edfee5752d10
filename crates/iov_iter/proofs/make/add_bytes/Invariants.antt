use Rattle.std.proofs.Common.{◌≡◌, ◌+◌, ◌-◌, ◌≤◌, ◌^◌, ◌++◌, length, drop}
use Rattle.iov_iter.specs.Making.{numbered, page_sizes}
use Rattle.iov_iter.specs.Slots.{joined, places}
use Rattle.iov_iter.proofs.make.add_bytes.Given as goal

abbrev pub invariant-loop-done : goal.invariant-loop-done
invariant-loop-done l = record {
  within : l.done ≤ length l.bytes;
  bytes : joined l.slots.items ++ drop l.done l.bytes ≡ joined l.initial.slots.items ++ l.bytes;
  pages : places l.slots.items ++ numbered (l.first + length l.slots.items) (page_sizes l.page_size (length l.bytes - l.done))
      ≡ places l.initial.slots.items ++ numbered (l.first + length l.initial.slots.items) (page_sizes l.page_size (length l.bytes));
  room : l.first + length l.slots.items + length (page_sizes l.page_size (length l.bytes - l.done)) ≤ 2 ^ 64;
}

abbrev pub decreases-loop-done : goal.decreases-loop-done
decreases-loop-done l = length l.bytes - l.done
