use Rattle.std.proofs.Common.{refl, ap, ◌∙◌}
use Rattle.std.specs.Vec.Iter.{into_iter_items}
use Rattle.file_stripes.specs.Runs.{placed}
use Rattle.file_stripes.proofs.StripeLemmas.{stripe_is}
use Rattle.file_stripes.proofs.cutting.cut_stripe.Goals as goal

pub returns-clause-stripe : goal.returns-clause-stripe
returns-clause-stripe c =
    stripe_is c.args.first c.count_placed.result c.args.kinds.now c.in_ok-merged.merged.items (into_iter_items c.args.held.now) _ refl refl
    c.requires.some c.requires.few c.in_ok-merged.ensures.merged c.in_ok-merged.ensures.kinds c.in_ok-merged.ensures.given
    (c.from_vec.ensures ∙ c.in_ok-extents.ensures ∙ ap placed c.as_slice.ensures.value) c.count_placed.ensures
    (c.from_vec-2.ensures ∙ c.in_ok-sectors.ensures.taken) c.requires.held
