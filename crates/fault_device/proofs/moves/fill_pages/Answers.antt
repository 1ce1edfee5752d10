use Rattle.std.proofs.Common.{sym, ◌∙◌, ap, set}
use Rattle.std.proofs.lemmas.List.Edits.{map_over_more}
use Rattle.fault_device.specs.Transfer.{block_read}
use Rattle.fault_device.proofs.moves.fill_pages.Goals as goal

pub loop-part-preserved : goal.loop-part-preserved
loop-part-preserved c =
    ap (λ p. set c.loop-part.parts c.loop-part.part-index p) (c.read_block.ensures ∙ ap block_read (sym c.part-item.is))
    ∙ map_over_more block_read c.args.parts.now c.loop-part.parts c.loop-part.part-index _ c.loop-part-test.true c.loop-part.invariant c.part-item.is
