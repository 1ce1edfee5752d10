use Rattle.std.proofs.Common.{◌+◌, arith}
use Rattle.iov_iter.specs.IovView.{sizes}
use Rattle.iov_iter.specs.Slots.{places}
use Rattle.iov_iter.proofs.SlotLemmas.{length_sizes, size_read}
use Rattle.iov_iter.proofs.SpotLemmas.{byte_next, stands_in, stands_next}
use Rattle.iov_iter.proofs.spot.spot_after.Goals as goal

pub overflow_add-offset : goal.overflow_add-offset
overflow_add-offset c = omega (arith, size_read c.args.slots.now.items c.args.spot.page c.index.result.now (omega arith) c.index.ensures)

pub returns-then-offset-size-clause-stands : goal.returns-then-offset-size-clause-stands
returns-then-offset-size-clause-stands c =
    stands_in (sizes (places c.args.slots.now.items)) c.args.spot.page (c.args.spot.offset + c.args.n) (omega (arith, length_sizes c.args.slots.now.items))
    (omega (arith, size_read c.args.slots.now.items c.args.spot.page c.index.result.now (omega arith) c.index.ensures))

pub returns-clause-stands : goal.returns-clause-stands
returns-clause-stands c =
    stands_next (sizes (places c.args.slots.now.items)) c.args.spot.page c.requires.some (omega (arith, length_sizes c.args.slots.now.items))

pub returns-clause-byte : goal.returns-clause-byte
returns-clause-byte c =
    omega (arith, byte_next (sizes (places c.args.slots.now.items)) c.args.spot.page (omega (arith, length_sizes c.args.slots.now.items)), size_read c.args.slots.now.items c.args.spot.page c.index.result.now (omega arith) c.index.ensures)
