use Rattle.std.proofs.Common.{◌++◌, ◌∷◌, [], ◌∙◌, ap}
use Rattle.range_core.proofs.CellLemmas.{cells_of-next}
use Rattle.range_core.proofs.open.build_cells.Goals as goal

pub loop-i-preserved : goal.loop-i-preserved
loop-i-preserved c =
    cells_of-next c.args.extents.now c.args.first c.loop-i.i c.args.blocks _ _ _ c.loop-i.cells.items _ _ c.loop-i-test.true
    c.loop-i.invariant c.kind_of.ensures (c.in_ok-push.ensures.items ∙ ap (λ x. c.loop-i.cells.items ++ x ∷ []) c.next_cell-cell.ensures.cell) c.next_cell-cell.ensures.rest
