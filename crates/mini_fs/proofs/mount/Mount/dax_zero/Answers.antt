use Rattle.std.proofs.Common.{refl, rules}
use Rattle.mini_fs.proofs.Telling.{told-as}
use Rattle.mini_fs.proofs.LaneTells.{zeroes}
use Rattle.mini_fs.proofs.mount.Mount.dax_zero.Goals as goal

pub turn_from-requires-clause-ready : goal.turn_from-requires-clause-ready
turn_from-requires-clause-ready g c = λ cell seat stand.
    let r = c.requires.ready cell seat stand in
    record { own = refl; may = record { judge = λ m some. some; bytes = r.0; given = r.1 } }

pub returns-clause-turned : goal.returns-clause-turned
returns-clause-turned g c = told-as _ _ _ _ _ _ _ _ c.turn_from.ensures.turned (λ opening history before after entry d. zeroes _ _ _ before after _ _ _ entry _ _ (record { same = λ same. search rules; so = λ n done told. search rules }) d)
