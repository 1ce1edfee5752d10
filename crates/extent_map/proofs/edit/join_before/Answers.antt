use Rattle.std.proofs.Common.{◌≡◌, ◌-◌, ◌∙◌, length, take, suc, arith}
use Rattle.std.proofs.lemmas.List.{length-take-le}
use Rattle.extent_map.proofs.Joining.{joined_before}
use Rattle.extent_map.proofs.edit.join_before.Goals as goal

pub returns-clause-items : goal.returns-clause-items
returns-clause-items c =
    let at = c.args.at in
    let items = c.args.runs.now.items in
    let long : length (take at items) ≡ suc (at - 1) = omega (arith, length-take-le at items (omega arith)) in
    c.join.ensures.items ∙ joined_before at (at - 1) items long
