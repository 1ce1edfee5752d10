use Rattle.std.proofs.Common.{refl}
use Rattle.mini_fs.proofs.Loaned.{part-held, part-pages}
use Rattle.mini_fs.proofs.mount.Mount.lend_part.Goals as goal

pub lent_turn-requires-clause-ready : goal.lent_turn-requires-clause-ready
lent_turn-requires-clause-ready g c cell seat stand = record { own = refl; may = c.requires.ready cell seat stand }

pub returns-clause-held : goal.returns-clause-held
returns-clause-held g c =
    part-held c.args.self.now c.args.file c.args.pass.now _ c.args.ticket.stripe c.args.ticket.held c.lent_turn.result.0 _ _ _ _ c.is_laid_out.ensures c.lent_turn.ensures.stripe c.requires.at c.lent_turn.result.1 c.lent_turn.ensures.turned

pub returns-clause-page : goal.returns-clause-page
returns-clause-page g c =
    part-pages c.args.self.now c.args.pass.now _ c.args.ticket.stripe _ _ _ _ _ c.args.by c.args.seen c.args.from c.args.to c.args.page _ c.requires.ready c.lent_turn.result.1 c.lent_turn.ensures.turned
