use Rattle.std.proofs.Common.{arith, sym, subst}
use Rattle.iov_iter.specs.Spots.{AreSome}
use Rattle.iov_iter.proofs.Sizes.{some_sizes}
use Rattle.iov_iter.proofs.iov.IovIter.bytes.Goals as goal

pub first_bytes-requires-clause-some : goal.first_bytes-requires-clause-some
first_bytes-requires-clause-some c = subst AreSome (sym c.self.invariant.cut) (some_sizes c.self.inside.page_size c.self.inside.lengths.items (omega (arith, c.self.invariant.page_size.least)))
