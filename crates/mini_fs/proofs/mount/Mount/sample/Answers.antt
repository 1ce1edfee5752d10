use Rattle.std.proofs.Common.{refl}
use Rattle.mini_fs.proofs.mount.Mount.sample.Goals as goal

pub turn-requires-clause-ready : goal.turn-requires-clause-ready
turn-requires-clause-ready g c cell seat stand = record { own = refl; may = c.requires.ready cell seat stand }
