use Rattle.std.proofs.Common.{set, get_or, ap, ◌∙◌, rules}
use Rattle.writeback_ioend.specs.ErrorCounts.{greater_counts}
use Rattle.writeback_ioend.proofs.Merging.{greater-all, greater-next, greater_of_first}
use Rattle.writeback_ioend.proofs.error_seen.ErrorSeen.merge.Goals as goal

pub loop-place-preserved : goal.loop-place-preserved
loop-place-preserved c =
    ap (λ l. set l c.loop-place.place c.max.result) c.loop-place.invariant
    ∙ ap (set (greater_of_first c.loop-place.place c.self.inside.counts.items c.other.inside.counts.items) c.loop-place.place) c.max.ensures
    ∙ greater-next c.loop-place.place c.self.inside.counts.items c.other.inside.counts.items c.index.result.now c.index-in-loop-place.result.now
    (search rules)
    (c.index.ensures ∙ ap (λ l. get_or l c.loop-place.place c.index.result.now) c.loop-place.invariant)
    c.index-in-loop-place.ensures

pub returns : goal.returns
returns c =
    c.loop-place.invariant
    ∙ greater-all c.loop-place.place c.self.inside.counts.items c.other.inside.counts.items (search rules) (search rules)
    ∙ ap (λ l. greater_counts l c.other.inside.counts.items) c.self.view_is
    ∙ ap (greater_counts c.args.self.now) c.other.view_is
