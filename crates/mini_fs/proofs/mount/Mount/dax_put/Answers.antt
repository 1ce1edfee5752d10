use Rattle.std.proofs.Common.{refl, rules}
use Rattle.mini_fs.specs.Turns.{block_at}
use Rattle.mini_fs.proofs.Telling.{at-pool, told-as}
use Rattle.mini_fs.proofs.LaneTells.{puts}
use Rattle.mini_fs.proofs.mount.Mount.dax_put.Goals as goal

pub turn_from-requires-clause-ready : goal.turn_from-requires-clause-ready
turn_from-requires-clause-ready g c = λ cell seat stand.
    let r = c.requires.ready cell seat stand in
    record { own = refl; may = record { judge = λ m some. some; bytes = r.0; room = r.1; given = r.2; pool = at-pool c.args.self.now c.args.pass.now c.args.file (block_at c.args.self.now c.args.from) cell seat _ c.is_laid_out.ensures c.requires.block c.pool.ensures stand } }

pub returns-clause-turned : goal.returns-clause-turned
returns-clause-turned g c = told-as _ _ _ _ _ _ _ _ c.turn_from.ensures.turned (λ opening history before after entry d. puts _ _ _ before after _ _ _ entry _ _ _ c.args.self.now.pool d (record { same = λ same. search rules; so = λ n done told. search rules }) (search rules) c.pool.ensures)
