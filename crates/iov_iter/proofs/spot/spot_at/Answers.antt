use Rattle.std.proofs.Common.{◌+◌, ◌/◌, ◌%◌, ℕ, get_or, take, arith, sym, subst}
use Rattle.std.proofs.Math.Nat.{div-le_self}
use Rattle.iov_iter.specs.Making.{sizes_of}
use Rattle.iov_iter.proofs.SpotLemmas.{Found, pages_within, segment_within, spot_end, spot_found}
use Rattle.iov_iter.proofs.spot.spot_at.Goals as goal

pub overflow_add-result : goal.overflow_add-result
overflow_add-result c =
    omega (arith, pages_within c.args.page_size (take c.loop-length.length-index c.args.lengths.now) (omega arith), div-le_self c.loop-length.left c.from-size.result)

found : (c : goal.Then-left-length) → Found (sizes_of c.args.page_size c.args.lengths.now) c.args.at (c.loop-length.page + c.loop-length.left / c.from-size.result) (c.loop-length.left % c.from-size.result)
found c =
    let P : ℕ → Type 0 = λ size. Found (sizes_of c.args.page_size c.args.lengths.now) c.args.at (c.loop-length.page + c.loop-length.left / size) (c.loop-length.left % size) in
    subst P (sym c.from-size.ensures) (spot_found c.args.page_size c.args.lengths.now c.loop-length.length-index c.loop-length.left c.args.at c.loop-length.page (omega arith) c.loop-length-test.true c.if-left-length.true c.loop-length.invariant.page c.loop-length.invariant.left)

pub returns-then-left-length-clause-stands : goal.returns-then-left-length-clause-stands
returns-then-left-length-clause-stands c = (found c).stands

pub returns-then-left-length-clause-byte : goal.returns-then-left-length-clause-byte
returns-then-left-length-clause-byte c = (found c).byte

pub overflow_add-page : goal.overflow_add-page
overflow_add-page c =
    omega (arith, pages_within c.args.page_size (take c.loop-length.length-index c.args.lengths.now) (omega arith), segment_within c.from-size.result (get_or c.args.lengths.now c.loop-length.length-index 0) (omega arith))

pub returns-clause-byte : goal.returns-clause-byte
returns-clause-byte c =
    spot_end c.args.page_size c.args.lengths.now c.loop-length.length-index c.loop-length.left c.args.at c.loop-length.page (omega arith) c.loop-length.invariant.page c.loop-length.invariant.left c.requires.within
