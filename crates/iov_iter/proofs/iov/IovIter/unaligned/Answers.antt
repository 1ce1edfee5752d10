use Rattle.std.proofs.Common.{◌≡◌, ℕ, ◌+◌, ◌-◌, ◌%◌, List, get_or, arith, sym, ap, ◌∙◌, subst}
use Rattle.iov_iter.specs.Unaligned.{IsFirstUnaligned}
use Rattle.iov_iter.proofs.iov.IovIter.unaligned.Goals as goal

pub returns-then-not-is_multiple_of-clause-first : goal.returns-then-not-is_multiple_of-clause-first
returns-then-not-is_multiple_of-clause-first c =
    let lengths : c.deref-length-items.result.now ≡ c.args.self.now.lengths = c.deref-length-items.ensures.value ∙ ap (λ v. v.lengths) c.self.view_is in
    let P : List ℕ → Type 0 = λ ls. IsFirstUnaligned c.args.size ls (c.loop-i.i + 1) (get_or c.deref-length-items.result.now c.loop-i.i 0) in
    let same : c.loop-i.i + 1 - 1 ≡ c.loop-i.i = omega arith in
    subst P lengths (record {
      from_one = omega arith;
      within = omega (arith, c.loop-i-test.true);
      is = ap (λ i. get_or c.deref-length-items.result.now i 0) same;
      unaligned = λ e. absurd (cc (c.if-not-is_multiple_of.true, c.is_multiple_of.ensures.1 (ap (λ n. get_or c.deref-length-items.result.now c.loop-i.i 0 % n) c.from-size.ensures ∙ e)));
      aligned_before = λ k h. ap (λ n. get_or c.deref-length-items.result.now k 0 % n) (sym c.from-size.ensures) ∙ c.loop-i.invariant k (omega (arith, h));
    })
