use Rattle.std.proofs.Common.{refl}
use Rattle.mini_fs.proofs.mount.Mount.store.Goals as goal

pub turn_from-requires-clause-ready : goal.turn_from-requires-clause-ready
turn_from-requires-clause-ready g c = λ cell seat stand.
    let r = c.requires.ready cell seat stand in
    record { own = refl; may = record { can = r.0; given = r.1 } }
