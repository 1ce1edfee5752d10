use Rattle.std.proofs.Common.{◌≡◌, List, [], ◌∷◌, ◌++◌, Option, Some, sym, ap, ◌∙◌, subst}
use Rattle.atomic_table.specs.Table.{opening}
use Rattle.turn_cell.specs.Rule.{Ruled}
use Rattle.turn_cell.specs.Steps.{first_view}
use Rattle.turn_cell.proofs.Ending.{starts}
use Rattle.turn_cell.proofs.cell.TurnCell.start.Goals as goal

pub new-requires : goal.new-requires
new-requires g c =
    let truth = g.T.Chronicle.truth in
    let items : c.push.new.self.items ≡ Some c.args.value ∷ [] = c.in_default.ensures.items ∙ ap (λ l. l ++ Some c.args.value ∷ []) c.new-slots.ensures.items in
    let is = c.of-opening.ensures in
    let P : g.row.T.Denot × g.row.T-Claims.Denot × List (Option g.row.T.Denot) → Type 0 = λ p. Ruled truth p.0 (opening (0 ∷ []) p.2 (first_view p.1)) in
    subst P (λ i. (sym is.0 i, sym is.1 i, sym items i)) (starts truth c.args.value c.args.claims c.requires)
