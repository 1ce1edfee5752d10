use Rattle.std.proofs.Common.{refl}
use Rattle.mini_fs.proofs.mount.Mount.written_back.Goals as goal

pub lent_turn-requires-clause-ready : goal.lent_turn-requires-clause-ready
lent_turn-requires-clause-ready g c cell seat stand = record { own = refl; may = record { back = c.args.back; given_is = refl; may = c.requires.ready cell seat stand } }
