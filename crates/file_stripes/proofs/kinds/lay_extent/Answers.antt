use Rattle.std.proofs.Common.{◌+◌, ◌∙◌, ap, set, arith}
use Rattle.io_model.specs.Kinds.{kind_after}
use Rattle.file_stripes.proofs.KindLemmas.{over_more, over_none}
use Rattle.file_stripes.proofs.kinds.lay_extent.Goals as goal

pub loop-i-init : goal.loop-i-init
loop-i-init c = over_none c.args.extent 0 c.args.kinds.now.items

pub loop-i-preserved : goal.loop-i-preserved
loop-i-preserved c =
    ap (λ k. set c.loop-i.kinds.items (c.args.extent.block + c.loop-i.i) k) c.nth_kind.ensures
    ∙ ap (λ l. set l (c.args.extent.block + c.loop-i.i) (kind_after c.args.extent.kind c.loop-i.i)) c.loop-i.invariant
    ∙ over_more c.args.extent c.loop-i.i 0 (c.args.extent.block + c.loop-i.i) c.args.kinds.now.items (omega arith) (omega arith)
