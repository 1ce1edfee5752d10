use Rattle.std.proofs.Common.{◌≡◌, take}
use Rattle.iov_iter.specs.Making.{bytes_in, lengths_of, numbered, sizes_of}
use Rattle.iov_iter.specs.Slots.{joined, places}
use Rattle.iov_iter.proofs.make.filled_slots.Given as goal

abbrev pub invariant-loop-segment : goal.invariant-loop-segment
invariant-loop-segment l = record {
  bytes : joined l.slots.items ≡ bytes_in (take l.segment-index l.segments);
  pages : places l.slots.items ≡ numbered l.first (sizes_of l.page_size (lengths_of (take l.segment-index l.segments)));
}
