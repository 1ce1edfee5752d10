use Rattle.std.proofs.Common.{◌≡◌, ◌-◌, ℕ, List, ◌++◌, length, min, take, drop, get_or, arith, sym, ap, ◌∙◌, length-take}
use Rattle.std.proofs.lemmas.List.{length-take-le}
use Rattle.iov_iter.specs.IovView.{sizes}
use Rattle.iov_iter.specs.Slots.{places}
use Rattle.iov_iter.proofs.SlotLemmas.{home_read, read_read, size_read}
use Rattle.iov_iter.proofs.pieces.read_piece.Goals as goal

pub overflow_sub-len : goal.overflow_sub-len
overflow_sub-len c = omega (arith, size_read c.args.slots.now.items c.args.spot.page c.index-slot.result.now (omega arith) c.index-slot.ensures)

pub read-requires-clause-home : goal.read-requires-clause-home
read-requires-clause-home c =
    let size : get_or (sizes (places c.args.slots.now.items)) c.args.spot.page 0 ≡ length c.index-slot.result.now.bytes =
    size_read c.args.slots.now.items c.args.spot.page c.index-slot.result.now (omega arith) c.index-slot.ensures in
    home_read c.args.slots.now.items c.args.spot.page c.args.spot.offset c.index-slot.result.now (omega arith) c.index-slot.ensures (omega (arith, size)) c.requires.home

pub read-requires-clause-within : goal.read-requires-clause-within
read-requires-clause-within c =
    let size : get_or (sizes (places c.args.slots.now.items)) c.args.spot.page 0 ≡ length c.index-slot.result.now.bytes =
    size_read c.args.slots.now.items c.args.spot.page c.index-slot.result.now (omega arith) c.index-slot.ensures in
    omega (arith, size, length-take c.min-n.result c.args.into.now)

pub returns-clause-count : goal.returns-clause-count
returns-clause-count c =
    let size : get_or (sizes (places c.args.slots.now.items)) c.args.spot.page 0 ≡ length c.index-slot.result.now.bytes =
    size_read c.args.slots.now.items c.args.spot.page c.index-slot.result.now (omega arith) c.index-slot.ensures in
    c.min-n.ensures ∙ ap (λ k. min (length c.args.into.now) (k - c.args.spot.offset)) (c.len.ensures ∙ sym size)

pub returns-clause-bytes : goal.returns-clause-bytes
returns-clause-bytes c =
    let size : get_or (sizes (places c.args.slots.now.items)) c.args.spot.page 0 ≡ length c.index-slot.result.now.bytes =
    size_read c.args.slots.now.items c.args.spot.page c.index-slot.result.now (omega arith) c.index-slot.ensures in
    let long : length (take c.min-n.result c.args.into.now) ≡ c.min-n.result = length-take-le c.min-n.result c.args.into.now (omega arith) in
    ap (λ (t : List ℕ). t ++ drop c.min-n.result c.args.into.now) (c.read.ensures ∙ ap (λ k. take k (drop c.args.spot.offset c.index-slot.result.now.bytes)) long
    ∙ sym (read_read c.args.slots.now.items c.args.spot.page c.args.spot.offset c.min-n.result c.index-slot.result.now (omega arith) c.index-slot.ensures (omega (arith, size))))
