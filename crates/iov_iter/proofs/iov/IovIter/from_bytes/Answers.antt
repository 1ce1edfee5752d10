use Rattle.std.proofs.Common.{List, length, sum, arith, sym, ap, ◌∙◌, subst}
use Rattle.std.proofs.lemmas.List.{length-map}
use Rattle.iov_iter.specs.Home.{is_home}
use Rattle.iov_iter.specs.IovView.{PagePlace, sizes}
use Rattle.iov_iter.specs.Kept.{OutAreWhole}
use Rattle.iov_iter.specs.Making.{lengths_of, sizes_of}
use Rattle.iov_iter.proofs.Filling.{length_bytes_in, numbered_home}
use Rattle.iov_iter.proofs.Making.{numbered_in, sizes_numbered}
use Rattle.iov_iter.proofs.Sizes.{total_sizes}
use Rattle.iov_iter.proofs.iov.IovIter.from_bytes.Goals as goal

pub invariant_of-result : goal.invariant_of-result
invariant_of-result c =
    let ls = lengths_of c.args.segments.now in
    let O : List PagePlace → Type 0 = OutAreWhole c.args.page_size in
    record {
      page_size = c.requires.size;
      cut = ap sizes c.in_ok-slots.ensures.places ∙ sizes_numbered c.args.first (sizes_of c.args.page_size ls) ∙ ap (sizes_of c.args.page_size) (sym c.in_ok-lengths.ensures);
      joined = ap length c.in_ok-slots.ensures.joined ∙ length_bytes_in c.args.segments.now ∙ ap sum (sym c.in_ok-lengths.ensures);
      short = omega (arith, ap sum c.in_ok-lengths.ensures, c.requires.short);
      few = omega (arith, ap length c.in_ok-lengths.ensures, length-map c.args.segments.now (λ s. length s.items), c.requires.few);
      out = subst O (sym c.in_ok-slots.ensures.places) (numbered_in c.args.page_size c.args.first (sizes_of c.args.page_size ls));
      within = omega arith;
    }

pub returns-clause-home : goal.returns-clause-home
returns-clause-home c =
    let ls = lengths_of c.args.segments.now in
    λ b low high.
    ap (λ (ps : List PagePlace). is_home ps b) c.in_ok-slots.ensures.places
    ∙ numbered_home c.args.first (sizes_of c.args.page_size ls) b
    (omega (arith, high, ap length c.in_ok-slots.ensures.joined, length_bytes_in c.args.segments.now, total_sizes c.args.page_size ls))
