use Rattle.std.proofs.Common.{◌++◌, ◌∷◌, [], ap, ◌∙◌}
use Rattle.call_parts.proofs.FillLemmas.{served-one}
use Rattle.call_parts.proofs.cold.run_one.Goals as goal

pub returns-clause-lane : goal.returns-clause-lane
returns-clause-lane g c =
    served-one c.args.bio c.push_reserved.new.self.items c.run_all.new.bios.items c.run_all.new.dones.items c.pop-2.new.self.items c.in-Some-pop.done _ _
    (c.push_reserved.ensures.items ∙ ap (λ l. l ++ c.args.bio ∷ []) c.requires.bios.0)
    c.run_all.ensures.run c.in-Some-pop.ensures.items c.run_all.ensures.lane c.run_all.ensures.own
