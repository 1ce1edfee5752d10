use Rattle.std.proofs.Common.{◌-◌, ◌∙◌, ap, drop, length, sym, arith}
use Rattle.std.proofs.lemmas.List.{drop_all}
use Rattle.file_stripes.specs.Kinds.{kinds_from}
use Rattle.file_stripes.proofs.KindLemmas.{kinds_from-none, laid_more, length-kinds_from, lies_at}
use Rattle.file_stripes.proofs.kinds.file_kinds.Goals as goal

pub loop-i-init : goal.loop-i-init
loop-i-init c =
    let es = c.as_slice-extents.result.now in
    c.in_ok-kinds.ensures ∙ kinds_from-none 0 c.args.file.now.blocks
    ∙ ap (λ l. kinds_from l 0 c.args.file.now.blocks) (sym (drop_all (length es - 0) es (omega arith)))

pub lay_extent-requires : goal.lay_extent-requires
lay_extent-requires c =
    let es = c.as_slice-extents.result.now in
    lies_at c.args.file.now.extents es (length es - 1 - c.loop-i.i) c.args.file.now.blocks _ _ c.requires.inside c.as_slice-extents.ensures (omega arith)
    (ap length c.loop-i.invariant ∙ length-kinds_from (drop (length es - c.loop-i.i) es) 0 c.args.file.now.blocks)

pub loop-i-preserved : goal.loop-i-preserved
loop-i-preserved c =
    laid_more c.as_slice-extents.result.now c.loop-i.i c.args.file.now.blocks _ c.loop-i.kinds.items c.lay_extent.new.kinds.items
    c.loop-i-test.true c.loop-i.invariant c.lay_extent.ensures
