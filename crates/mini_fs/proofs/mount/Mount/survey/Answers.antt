use Rattle.std.proofs.Common.{refl}
use Rattle.mini_fs.proofs.mount.Mount.survey.Goals as goal

pub turn-requires-clause-ready : goal.turn-requires-clause-ready
turn-requires-clause-ready g c = λ cell seat stand.
    let r = c.requires.ready cell seat stand in
    record { own = refl; may = r }
