use Rattle.std.proofs.Common.{◌∙◌, ap}
use Rattle.extent_map.proofs.Merged.{merged_copy}
use Rattle.extent_map.proofs.map.ExtentMap.extents.Goals as goal

pub returns : goal.returns
returns c =
    merged_copy c.self.inside.runs.items c.in_ok-extents.extents.items c.args.self.now.kinds c.self.invariant
    (c.in_ok-extents.ensures.items ∙ c.deref.ensures.value) (ap (λ m. m.kinds) c.self.view_is)
