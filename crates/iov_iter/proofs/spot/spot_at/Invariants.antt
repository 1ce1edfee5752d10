use Rattle.std.proofs.Common.{◌≡◌, ◌+◌, length, sum, take}
use Rattle.iov_iter.specs.Making.{sizes_of}
use Rattle.iov_iter.proofs.spot.spot_at.Given as goal

abbrev pub invariant-loop-length : goal.invariant-loop-length
invariant-loop-length l = record {
  page : l.page ≡ length (sizes_of l.page_size (take l.length-index l.lengths));
  left : sum (take l.length-index l.lengths) + l.left ≡ l.at;
}
