use Rattle.std.proofs.Common.{◌≡◌, ◌+◌, ◌-◌, ◌++◌, ℕ, List, length, min, take, drop, arith, sym, ap, ◌∙◌, subst, length-drop}
use Rattle.std.proofs.lemmas.List.{length-take-le, take_all}
use Rattle.iov_iter.specs.Making.{numbered, page_sizes}
use Rattle.iov_iter.specs.Slots.{SlotView, joined, places}
use Rattle.iov_iter.proofs.Making.{Added, add_more, bytes_more}
use Rattle.iov_iter.proofs.make.add_bytes.Goals as goal

pub loop-done-preserved : goal.loop-done-preserved
loop-done-preserved c =
    let l : List SlotView = c.loop-done.slots.items in
    let s : SlotView = c.in_ok-copied.field-0 in
    let all : List ℕ = c.args.bytes.now in
    let done : ℕ = c.loop-done.done in
    let n : ℕ = c.min-n.result in
    let size : ℕ = c.args.page_size in
    let left : ℕ = length all - done in
    let short : n ≡ min left size = omega (arith, c.min-n.ensures, length-drop done all) in
    let bytes : s.bytes ≡ take n (drop done all) = c.in_ok-copied.ensures.bytes ∙ ap (take n) (take_all left (drop done all) (omega (arith, length-drop done all))) in
    let long : length s.bytes ≡ n = ap length bytes ∙ length-take-le n (drop done all) (omega (arith, length-drop done all)) in
    let P : List SlotView → Type 0 = λ l'. Added l l' c.args.first size left n in
    let B : List SlotView → Type 0 = λ l'. joined l' ++ drop (done + n) all ≡ joined l ++ drop done all in
    let added : Added l c.push.new.self.items c.args.first size left n =
    subst P (sym c.in_ok-push.ensures.items) (add_more l s c.args.first size left n (c.in_ok-copied.ensures.number ∙ omega (arith, c.len.ensures)) long c.in_ok-copied.ensures.home short (omega (arith, c.loop-done-test.true)) (omega (arith, c.requires.size.least))) in
    let joins : joined c.push.new.self.items ++ drop (done + n) all ≡ joined l ++ drop done all = subst B (sym c.in_ok-push.ensures.items) (bytes_more l s done n all bytes) in
    let rest : length all - (done + n) ≡ left - n = omega arith in
    record {
      within = omega (arith, short);
      bytes = joins ∙ c.loop-done.invariant.bytes;
      pages = ap (λ m. places c.push.new.self.items ++ numbered (c.args.first + length c.push.new.self.items) (page_sizes size m)) rest ∙ added.pages ∙ c.loop-done.invariant.pages;
      room = omega (arith, added.room, c.loop-done.invariant.room, ap (λ m. length (page_sizes size m)) rest);
    }
