use Rattle.std.proofs.Common.{rules}
use Rattle.mini_fs.proofs.Telling.{told-as}
use Rattle.mini_fs.proofs.Tries.{if-ok}
use Rattle.mini_fs.proofs.LaneTells.{reads-now}
use Rattle.mini_fs.proofs.mount.Mount.try_direct_now.Goals as goal

pub returns-clause-turned : goal.returns-clause-turned
returns-clause-turned g c =
    let t = c.try_turn.ensures.turned in
    if-ok _ _ _ c.try_turn.result (λ answer turns _. told-as _ _ _ _ _ _ _ _ turns (λ opening history before after entry d. reads-now _ _ _ opening history before after _ _ answer entry _ _ _ (record { same = λ same. search rules; so = λ n done told. search rules }) (search rules) d)) t t
