use Rattle.std.proofs.Common.{◌∙◌, ap, drop, length, subst, IfNone, IfSome}
use Rattle.std.specs.List.{position_from}
use Rattle.extent_map.specs.BlockKinds.{BlockKinds}
use Rattle.extent_map.specs.Expansion.{kinds_of}
use Rattle.extent_map.specs.Sorts.{IsLeastFrom, NoneBetween, is_hole}
use Rattle.extent_map.proofs.Seeking.{least_of, none_of}
use Rattle.extent_map.proofs.map.ExtentMap.next_hole.Goals as goal

pub returns-clause-least : goal.returns-clause-least
returns-clause-least c =
    let P : BlockKinds → Type 0 = λ m. IfSome c.first_from.result (λ x. IsLeastFrom is_hole m.kinds c.args.b x) in
    subst P c.self.view_is
    (least_of c.first_from.result is_hole (kinds_of c.self.inside.runs.items) c.args.b
    (c.first_from.ensures ∙ ap (λ l. position_from is_hole c.args.b (drop c.args.b (kinds_of l))) c.deref.ensures.value))

pub returns-clause-none : goal.returns-clause-none
returns-clause-none c =
    let P : BlockKinds → Type 0 = λ m. IfNone c.first_from.result (NoneBetween is_hole m.kinds c.args.b (length m.kinds)) in
    subst P c.self.view_is
    (none_of c.first_from.result is_hole (kinds_of c.self.inside.runs.items) c.args.b
    (c.first_from.ensures ∙ ap (λ l. position_from is_hole c.args.b (drop c.args.b (kinds_of l))) c.deref.ensures.value))
