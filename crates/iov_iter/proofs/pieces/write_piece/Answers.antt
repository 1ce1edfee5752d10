use Rattle.std.proofs.Common.{◌-◌, length, min, take, set, arith, sym, ap, ◌∙◌, length-take}
use Rattle.iov_iter.specs.Slots.{SlotView, joined, place_of}
use Rattle.iov_iter.proofs.SlotLemmas.{home_read, place_written, places_read, size_read, write_read}
use Rattle.iov_iter.proofs.pieces.write_piece.Goals as goal

pub overflow_sub-len : goal.overflow_sub-len
overflow_sub-len c = omega (arith, size_read c.args.slots.now.items c.args.spot.page c.index.result.now (omega arith) c.index.ensures)

pub write-requires-clause-home : goal.write-requires-clause-home
write-requires-clause-home c =
    home_read c.args.slots.now.items c.args.spot.page c.args.spot.offset c.index_mut.result.now (omega arith) c.index_mut.ensures.value
    (omega (arith, size_read c.args.slots.now.items c.args.spot.page c.index_mut.result.now (omega arith) c.index_mut.ensures.value)) c.requires.home

pub write-requires-clause-within : goal.write-requires-clause-within
write-requires-clause-within c =
    omega (arith, size_read c.args.slots.now.items c.args.spot.page c.index.result.now (omega arith) c.index.ensures, size_read c.args.slots.now.items c.args.spot.page c.index_mut.result.now (omega arith) c.index_mut.ensures.value, length-take c.min-n.result c.args.from.now)

pub returns-clause-count : goal.returns-clause-count
returns-clause-count c =
    c.min-n.ensures ∙ ap (λ k. min (length c.args.from.now) (k - c.args.spot.offset)) (c.len.ensures ∙ sym (size_read c.args.slots.now.items c.args.spot.page c.index.result.now (omega arith) c.index.ensures))

pub returns-clause-bytes : goal.returns-clause-bytes
returns-clause-bytes c =
    ap (λ (s : SlotView). joined (set c.args.slots.now.items c.args.spot.page s)) c.write.ensures
    ∙ write_read c.args.slots.now.items c.args.spot.page c.args.spot.offset (take c.min-n.result c.args.from.now) c.index_mut.result.now (omega arith) c.index_mut.ensures.value
    (omega (arith, size_read c.args.slots.now.items c.args.spot.page c.index.result.now (omega arith) c.index.ensures, size_read c.args.slots.now.items c.args.spot.page c.index_mut.result.now (omega arith) c.index_mut.ensures.value, length-take c.min-n.result c.args.from.now))

pub returns-clause-places : goal.returns-clause-places
returns-clause-places c =
    places_read c.args.slots.now.items c.args.spot.page c.index_mut.result.now c.write.new.self c.index_mut.ensures.value
    (ap place_of c.write.ensures ∙ place_written c.args.spot.offset (take c.min-n.result c.args.from.now) c.index_mut.result.now
    (omega (arith, size_read c.args.slots.now.items c.args.spot.page c.index.result.now (omega arith) c.index.ensures, size_read c.args.slots.now.items c.args.spot.page c.index_mut.result.now (omega arith) c.index_mut.ensures.value, length-take c.min-n.result c.args.from.now)))
