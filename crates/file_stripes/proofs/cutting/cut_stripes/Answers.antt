use Rattle.std.proofs.Common.{◌≡◌, ◌+◌, ◌∙◌, All, List, ap, length, min, subst, sym, arith}
use Rattle.std.specs.Vec.Iter.{into_iter_items}
use Rattle.io_model.specs.declared.file.Kind.{Kind}
use Rattle.file_stripes.specs.Kinds.{IsFirstKind}
use Rattle.file_stripes.proofs.KindLemmas.{first_kinds, length-kinds_from}
use Rattle.file_stripes.proofs.StripeLemmas.{begins_next, cut_here, cutting_more, few_next, given_next}
use Rattle.file_stripes.proofs.cutting.cut_stripes.Goals as goal

pub cut_stripe-requires-clause-few : goal.cut_stripe-requires-clause-few
cut_stripe-requires-clause-few c =
    let long = ap length c.in_ok-kinds.ensures ∙ length-kinds_from c.args.file.now.extents 0 c.args.file.now.blocks in
    few_next c.loop-low.low c.min-high.result c.in_ok-kinds.kinds.items c.deref.result.now c.deref.ensures.value (omega arith)
    (omega (arith, long, c.requires.file.few))

pub cut_stripe-requires-clause-given : goal.cut_stripe-requires-clause-given
cut_stripe-requires-clause-given c =
    let A : List Kind → Type 0 = λ l. All IsFirstKind l in
    given_next c.loop-low.low c.min-high.result c.in_ok-kinds.kinds.items c.deref.result.now c.deref.ensures.value
    (subst A (sym c.in_ok-kinds.ensures) (first_kinds c.args.file.now.blocks c.args.file.now.extents 0 c.args.file.now.blocks c.requires.file.inside))

pub cut_stripe-requires-clause-held : goal.cut_stripe-requires-clause-held
cut_stripe-requires-clause-held c =
    let at : c.min-high.result ≡ min (length c.in_ok-kinds.kinds.items) (c.loop-low.low + 64) = omega arith in
    begins_next 64 c.loop-low.low c.min-high.result c.in_ok-kinds.kinds.items _ c.loop-low.stripes.items (into_iter_items c.args.held.now)
    (into_iter_items c.loop-low.held) c.loop-low.invariant
    (cut_here 64 c.loop-low.low c.min-high.result c.in_ok-kinds.kinds.items c.deref.result.now c.deref.ensures.value (omega arith) at)

pub loop-low-preserved : goal.loop-low-preserved
loop-low-preserved c =
    let at : c.min-high.result ≡ min (length c.in_ok-kinds.kinds.items) (c.loop-low.low + 64) = omega arith in
    cutting_more 64 c.loop-low.low c.min-high.result c.in_ok-kinds.kinds.items _ c.loop-low.stripes.items c.push.new.self.items c.in_ok-stripe.stripe
    (into_iter_items c.args.held.now) (into_iter_items c.loop-low.held) (into_iter_items c.cut_stripe.new.held) (omega arith) at c.loop-low.invariant
    (cut_here 64 c.loop-low.low c.min-high.result c.in_ok-kinds.kinds.items c.deref.result.now c.deref.ensures.value (omega arith) at)
    c.in_ok-stripe.ensures.stripe c.in_ok-stripe.ensures.sectors c.in_ok-push.ensures.items
