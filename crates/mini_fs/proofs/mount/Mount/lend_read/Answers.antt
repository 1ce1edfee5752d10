use Rattle.std.proofs.Common.{Some, ap, refl}
use Rattle.mini_fs.proofs.mount.Mount.lend_read.Goals as goal

pub lent_turn-requires-clause-ready : goal.lent_turn-requires-clause-ready
lent_turn-requires-clause-ready g c cell seat stand = record { own = refl; may = record { may = c.requires.ready cell seat stand; list = ap Some c.requires.list } }
