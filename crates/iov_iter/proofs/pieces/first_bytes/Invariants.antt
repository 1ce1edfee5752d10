use Rattle.std.proofs.Common.{◌≡◌, take}
use Rattle.iov_iter.specs.Slots.{joined}
use Rattle.iov_iter.proofs.pieces.first_bytes.Given as goal

abbrev pub invariant-loop-slot : goal.invariant-loop-slot
invariant-loop-slot l = l.bytes.items ≡ take l.n (joined (take l.slot-index l.slots.items))
