use Rattle.std.proofs.Common.{refl, rules}
use Rattle.mini_fs.proofs.Telling.{told-as}
use Rattle.mini_fs.proofs.LaneTells.{reads-now}
use Rattle.mini_fs.proofs.mount.Mount.direct_now.Goals as goal

pub turn-requires-clause-ready : goal.turn-requires-clause-ready
turn-requires-clause-ready g c = λ cell seat stand.
    let r = c.requires.ready cell seat stand in
    record { own = refl; may = (λ m some. some, r) }

pub returns-clause-turned : goal.returns-clause-turned
returns-clause-turned g c = told-as _ _ _ _ _ _ _ _ c.turn.ensures.turned (λ opening history before after entry d. reads-now _ _ _ opening history before after _ _ _ entry _ _ _ (record { same = λ same. search rules; so = λ n done told. search rules }) (search rules) d)
