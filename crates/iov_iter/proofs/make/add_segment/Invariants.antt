use Rattle.std.proofs.Common.{◌≡◌, ◌+◌, ◌≤◌, ◌^◌, ◌++◌, length, replicate}
use Rattle.iov_iter.specs.Making.{numbered, page_sizes}
use Rattle.iov_iter.specs.Slots.{joined, places}
use Rattle.iov_iter.proofs.make.add_segment.Given as goal

abbrev pub invariant-loop-left : goal.invariant-loop-left
invariant-loop-left l = record {
  bytes : joined l.slots.items ++ replicate l.left 0 ≡ joined l.initial.slots.items ++ replicate l.fn.bytes 0;
  pages : places l.slots.items ++ numbered (l.first + length l.slots.items) (page_sizes l.page_size l.left)
      ≡ places l.initial.slots.items ++ numbered (l.first + length l.initial.slots.items) (page_sizes l.page_size l.fn.bytes);
  room : l.first + length l.slots.items + length (page_sizes l.page_size l.left) ≤ 2 ^ 64;
}

abbrev pub decreases-loop-left : goal.decreases-loop-left
decreases-loop-left l = l.left
