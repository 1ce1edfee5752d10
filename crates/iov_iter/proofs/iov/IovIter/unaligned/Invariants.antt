use Rattle.std.proofs.Common.{◌≡◌, ℕ, ◌<◌, ◌%◌, get_or}
use Rattle.iov_iter.proofs.iov.IovIter.unaligned.Given as goal

abbrev pub invariant-loop-i : goal.invariant-loop-i
invariant-loop-i l = (k : ℕ) → k < l.i → get_or l.length-items k 0 % l.size ≡ 0
