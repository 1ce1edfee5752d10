use Rattle.std.proofs.Common.{◌≡◌, replicate, sum, take}
use Rattle.iov_iter.specs.Making.{numbered, sizes_of}
use Rattle.iov_iter.specs.Slots.{joined, places}
use Rattle.iov_iter.proofs.make.zeroed_slots.Given as goal

abbrev pub invariant-loop-bytes : goal.invariant-loop-bytes
invariant-loop-bytes l = record {
  bytes : joined l.slots.items ≡ replicate (sum (take l.bytes-index l.lengths)) 0;
  pages : places l.slots.items ≡ numbered l.first (sizes_of l.page_size (take l.bytes-index l.lengths));
}
