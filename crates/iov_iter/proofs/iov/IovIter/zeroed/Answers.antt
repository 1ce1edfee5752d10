use Rattle.std.proofs.Common.{ℕ, List, length, sum, arith, sym, ap, ◌∙◌, subst}
use Rattle.std.proofs.lemmas.List.{length-replicate}
use Rattle.iov_iter.specs.Kept.{OutAreWhole}
use Rattle.iov_iter.specs.IovView.{PagePlace, sizes}
use Rattle.iov_iter.specs.Making.{sizes_of}
use Rattle.iov_iter.specs.Home.{is_home}
use Rattle.iov_iter.proofs.Filling.{numbered_home}
use Rattle.iov_iter.proofs.Sizes.{total_sizes}
use Rattle.iov_iter.proofs.Making.{numbered_in, sizes_numbered}
use Rattle.iov_iter.proofs.iov.IovIter.zeroed.Goals as goal

pub invariant_of-result : goal.invariant_of-result
invariant_of-result c =
    let ls = c.args.lengths.now in
    let O : List PagePlace → Type 0 = OutAreWhole c.args.page_size in
    record {
      page_size = c.requires.size;
      cut = ap sizes c.in_ok-slots.ensures.places ∙ sizes_numbered c.args.first (sizes_of c.args.page_size ls) ∙ ap (sizes_of c.args.page_size) (sym c.in_ok-lengths.ensures.items);
      joined = ap length c.in_ok-slots.ensures.joined ∙ length-replicate {A = ℕ} (sum ls) 0 ∙ ap sum (sym c.in_ok-lengths.ensures.items);
      short = omega (arith, ap sum c.in_ok-lengths.ensures.items, c.requires.short);
      few = omega (arith, ap length c.in_ok-lengths.ensures.items, c.requires.few);
      out = subst O (sym c.in_ok-slots.ensures.places) (numbered_in c.args.page_size c.args.first (sizes_of c.args.page_size ls));
      within = omega arith;
    }

pub returns-clause-home : goal.returns-clause-home
returns-clause-home c =
    let ls = c.args.lengths.now in
    λ b low high.
    ap (λ (ps : List PagePlace). is_home ps b) c.in_ok-slots.ensures.places
    ∙ numbered_home c.args.first (sizes_of c.args.page_size c.args.lengths.now) b
    (omega (arith, high, ap length c.in_ok-slots.ensures.joined, length-replicate {A = ℕ} (sum c.args.lengths.now) 0, total_sizes c.args.page_size c.args.lengths.now))
