use Rattle.std.proofs.Common.{refl}
use Rattle.mini_fs.proofs.Telling.{at-pool}
use Rattle.mini_fs.proofs.mount.Mount.wipe.Goals as goal

pub turn-requires-clause-ready : goal.turn-requires-clause-ready
turn-requires-clause-ready g c = λ cell seat stand.
    let r = c.requires.ready cell seat stand in
    record { own = refl; may = record { lies = r; pool = at-pool c.args.self.now c.args.pass.now c.args.file c.args.b cell seat _ c.is_laid_out.ensures c.requires.block c.pool.ensures stand } }
