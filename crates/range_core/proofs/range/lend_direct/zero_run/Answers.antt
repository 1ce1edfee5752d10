use Rattle.std.proofs.Common.{sym, ◌∙◌, ap, set}
use Rattle.std.proofs.lemmas.List.Edits.{map_over_more}
use Rattle.range_core.specs.LendDirects.{part_zeroed}
use Rattle.range_core.proofs.range.lend_direct.zero_run.Goals as goal

pub loop-part-preserved : goal.loop-part-preserved
loop-part-preserved c =
    ap (λ p. set c.loop-part.parts c.loop-part.part-index p) (c.zero_part.ensures ∙ ap part_zeroed (sym c.part-item.is))
    ∙ map_over_more part_zeroed c.args.parts.now c.loop-part.parts c.loop-part.part-index _ c.loop-part-test.true c.loop-part.invariant c.part-item.is
