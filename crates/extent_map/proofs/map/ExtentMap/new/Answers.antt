use Rattle.std.proofs.Common.{◌≡◌, [], ◌∷◌, ◌++◌, ◌∙◌, ap, arith}
use Rattle.extent_map.proofs.Whole.{hole_run, kept_hole, one_hole}
use Rattle.extent_map.proofs.map.ExtentMap.new.Goals as goal

pub invariant_of-result-2 : goal.invariant_of-result-2
invariant_of-result-2 c =
    let e : c.push.new.self.items ≡ hole_run c.args.blocks ∷ [] = c.in_ok-push.ensures.items ∙ ap (λ l. l ++ hole_run c.args.blocks ∷ []) c.new-runs.ensures.items in
    kept_hole c.args.blocks _ e (omega arith) (omega arith)

pub returns : goal.returns
returns c = one_hole c.args.blocks _ (c.in_ok-push.ensures.items ∙ ap (λ l. l ++ hole_run c.args.blocks ∷ []) c.new-runs.ensures.items)
