use Rattle.std.proofs.Common.{◌≡◌, ◌-◌, ◌++◌, List, length, min, replicate, arith, sym, ap, ◌∙◌, subst}
use Rattle.std.proofs.lemmas.List.{length-replicate}
use Rattle.iov_iter.specs.Slots.{SlotView, joined}
use Rattle.iov_iter.proofs.Making.{Added, add_more, zeros_more}
use Rattle.iov_iter.proofs.make.add_segment.Goals as goal

pub loop-left-preserved : goal.loop-left-preserved
loop-left-preserved c =
    let l : List SlotView = c.loop-left.slots.items in
    let s : SlotView = c.in_ok-zeroed.field-0 in
    let left = c.loop-left.left in
    let n = c.min-n.result in
    let size : n ≡ min left c.args.page_size = c.min-n.ensures ∙ ap (min left) c.from-size.ensures in
    let P : List SlotView → Type 0 = λ l'. Added l l' c.args.first c.args.page_size left n in
    let B : List SlotView → Type 0 = λ l'. joined l' ++ replicate (left - n) 0 ≡ joined l ++ replicate left 0 in
    let added : Added l c.push.new.self.items c.args.first c.args.page_size left n =
    subst P (sym c.in_ok-push.ensures.items) (add_more l s c.args.first c.args.page_size left n (c.in_ok-zeroed.ensures.number ∙ omega (arith, c.len.ensures)) (ap length c.in_ok-zeroed.ensures.bytes ∙ length-replicate n 0) c.in_ok-zeroed.ensures.home size (omega (arith, c.loop-left-test.true)) (omega (arith, c.requires.size.least))) in
    let bytes : joined c.push.new.self.items ++ replicate (left - n) 0 ≡ joined l ++ replicate left 0 =
    subst B (sym c.in_ok-push.ensures.items) (zeros_more l s left n c.in_ok-zeroed.ensures.bytes (omega (arith, size))) in
    record {
      bytes = bytes ∙ c.loop-left.invariant.bytes;
      pages = added.pages ∙ c.loop-left.invariant.pages;
      room = omega (arith, added.room, c.loop-left.invariant.room);
    }
