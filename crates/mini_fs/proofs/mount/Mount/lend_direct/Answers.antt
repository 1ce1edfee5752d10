use Rattle.std.proofs.Common.{refl}
use Rattle.mini_fs.proofs.Loaned.{direct-pages}
use Rattle.mini_fs.proofs.mount.Mount.lend_direct.Goals as goal

pub lent_turn-requires-clause-ready : goal.lent_turn-requires-clause-ready
lent_turn-requires-clause-ready g c cell seat stand = record { own = refl; may = c.requires.ready cell seat stand }

pub returns-clause-pages : goal.returns-clause-pages
returns-clause-pages g c =
    direct-pages c.args.self.now c.args.pass.now _ c.args.ticket.stripe _ _ _ _ _ c.args.by c.args.seen c.args.op c.args.block c.args.pages _ c.requires.ready c.lent_turn.result.1 c.lent_turn.ensures.turned
