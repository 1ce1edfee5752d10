use Rattle.std.proofs.Common.{refl, rules}
use Rattle.mini_fs.proofs.Telling.{told-as}
use Rattle.mini_fs.proofs.Tries.{if-ok}
use Rattle.mini_fs.proofs.mount.Mount.try_fetch.Goals as goal

pub try_turn_from-requires-clause-ready : goal.try_turn_from-requires-clause-ready
try_turn_from-requires-clause-ready c = λ cell seat stand.
    let r = c.requires.ready cell seat stand in
    record { own = refl; may = r }

pub returns-clause-turned : goal.returns-clause-turned
returns-clause-turned c =
    let t = c.try_turn_from.ensures.turned in
    if-ok _ _ _ c.try_turn_from.result (λ answer turns _. told-as _ _ _ _ _ _ _ _ turns (λ opening history before after entry d. search rules)) t t
