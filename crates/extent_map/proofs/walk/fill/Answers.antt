use Rattle.std.proofs.Common.{◌+◌, ◌∙◌, ap, set, arith}
use Rattle.extent_map.proofs.Walking.{filled_more}
use Rattle.extent_map.proofs.walk.fill.Goals as goal

pub loop-i-preserved : goal.loop-i-preserved
loop-i-preserved c =
    ap (λ l. set l (c.args.b + c.loop-i.i) c.nth_kind.result) c.loop-i.invariant
    ∙ ap (set _ (c.args.b + c.loop-i.i)) c.nth_kind.ensures
    ∙ filled_more c.args.kinds.now.items c.args.b c.loop-i.i c.args.kind (omega arith)
