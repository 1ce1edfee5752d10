use Rattle.std.proofs.Common.{◌≡◌, ◌≤◌, ◌-◌, ◌++◌, ℕ, List, length, take, get_or, ap, ◌∙◌, arith, length-take}
use Rattle.iov_iter.specs.Slots.{SlotView, joined}
use Rattle.iov_iter.proofs.FirstBytes.{first_done, first_home, first_more}
use Rattle.iov_iter.proofs.pieces.first_bytes.Goals as goal

pub append-requires : goal.append-requires
append-requires c =
    let l : List SlotView = c.args.slots.now.items in
    let i : ℕ = c.loop-slot.slot-index in
    let s : SlotView = c.slot-item.result in
    let few : length c.loop-slot.bytes.items ≤ c.args.n = omega (arith, ap length c.loop-slot.invariant, length-take c.args.n (joined (take i l))) in
    first_home l i c.args.n c.loop-slot.bytes.items c.loop-slot.invariant s c.requires.some c.requires.home (omega (arith, c.loop-slot-test.true, ap length c.deref-slot-items.ensures.value))
    (c.slot-item.is ∙ ap (λ (xs : List SlotView). get_or xs i s) c.deref-slot-items.ensures.value) (omega (arith, few, c.if-len-n.false, c.len.ensures))

pub loop-slot-preserved : goal.loop-slot-preserved
loop-slot-preserved c =
    let l : List SlotView = c.args.slots.now.items in
    let i : ℕ = c.loop-slot.slot-index in
    let s : SlotView = c.slot-item.result in
    let few : length c.loop-slot.bytes.items ≤ c.args.n = omega (arith, ap length c.loop-slot.invariant, length-take c.args.n (joined (take i l))) in
    let many : c.len-in-loop-slot.result ≡ length c.loop-slot.bytes.items = omega (arith, c.len-in-loop-slot.ensures) in
    first_more l i c.args.n c.loop-slot.bytes.items c.loop-slot.invariant s c.append.new.into.items (omega (arith, c.loop-slot-test.true, ap length c.deref-slot-items.ensures.value))
    (c.slot-item.is ∙ ap (λ (xs : List SlotView). get_or xs i s) c.deref-slot-items.ensures.value) (omega (arith, few, c.if-len-n.false, c.len.ensures))
    (c.in_ok-append.ensures ∙ ap (λ k. c.loop-slot.bytes.items ++ take (c.args.n - k) s.bytes) many)

pub returns-then-len-n : goal.returns-then-len-n
returns-then-len-n c =
    first_done c.args.slots.now.items c.loop-slot.slot-index c.args.n c.loop-slot.bytes.items c.loop-slot.invariant (omega (arith, c.if-len-n.true, c.len.ensures))
