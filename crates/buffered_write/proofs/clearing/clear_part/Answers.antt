use Rattle.std.proofs.Common.{◌<◌, sym, ap, ◌∙◌, subst}
use Rattle.buffered_write.specs.Clears.{block_end, covers_block}
use Rattle.buffered_write.proofs.ClearParts.{part-clears}
use Rattle.buffered_write.proofs.clearing.clear_part.Goals as goal

pub returns-clause-cleared : goal.returns-clause-cleared
returns-clause-cleared g c =
    part-clears c.args.mount.now c.args.file c.args.by c.args.to c.args.at (subst (λ n. 0 < n) c.block_size-size.ensures.is c.block_size-size.ensures.some) c.requires.within c.requires.some
    (ap (λ s. covers_block s c.args.to c.args.at) (sym c.block_size-size.ensures.is) ∙ sym c.covers_block.ensures ∙ c.if-covers_block.false) c.block_end.result _ _ c.args.pass.now c.zero_span.new.pass c.zero_span.result
    (c.block_end.ensures ∙ ap (λ s. block_end s c.args.to c.args.at) c.block_size-size.ensures.is) c.zero_span.ensures.ends c.zero_span.ensures.zeroed
