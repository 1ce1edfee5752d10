use Rattle.std.proofs.Common.{◌∙◌, sym, arith}
use Rattle.extent_map.proofs.Following.{no_extent}
use Rattle.extent_map.proofs.Seeking.{sought_at, sought_more, sought_next}
use Rattle.extent_map.proofs.seek.first_after.Goals as goal

pub loop-next-init : goal.loop-next-init
loop-next-init c =
    sought_next c.args.hole c.args.b c.args.at c.args.runs.now no_extent c.requires.follow c.requires.place (c.requires.other no_extent c.requires.place.within)

pub loop-next-preserved : goal.loop-next-preserved
loop-next-preserved c =
    c.loop-next.invariant ∙ sought_more c.args.hole c.loop-next.next c.args.runs.now no_extent c.requires.follow (omega arith) (sym c.if-is_sort.ensures)

pub returns-then-is_sort : goal.returns-then-is_sort
returns-then-is_sort c =
    sym
    (c.loop-next.invariant ∙ sought_at c.args.hole c.loop-next.next c.args.runs.now no_extent c.requires.follow (omega arith) (sym c.if-is_sort.ensures))
