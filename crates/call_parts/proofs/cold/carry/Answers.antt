use Rattle.std.proofs.Common.{refl}
use Rattle.iob_base.specs.declared.stamp.Op.TheVariants.{Read}
use Rattle.bio_pages.specs.declared.bio.Bio.{Bio}
use Rattle.mini_fs.specs.TicketView.{TicketView}
use Rattle.mini_fs.specs.Tickets.{lent_claims}
use Rattle.mini_fs.proofs.Loaned.{returned-ready-read}
use Rattle.call_parts.proofs.FillLemmas.{carried, carries-loan}
use Rattle.call_parts.proofs.cold.carry.Goals as goal

pub fill_back-ticket-requires-clause-ready : goal.fill_back-ticket-requires-clause-ready
fill_back-ticket-requires-clause-ready g c =
    let lent = c.args.lent in
    let sent : Bio TicketView = record { op = Read; slot = 0; block = lent.block; parts = lent.parts; ticket = c.args.ticket } in
    returned-ready-read c.args.mount.now c.args.file lent.ticket sent c.run_one-bio.result.0 c.run_one-bio.result.1 c.run_one-bio.ensures.run
    (carries-loan c.args.mount.now c.args.file lent sent c.requires.loan refl refl refl) c.run_one-bio.new.pass

pub returns-clause-carried : goal.returns-clause-carried
returns-clause-carried g c =
    let lent = c.args.lent in
    let sent : Bio TicketView = record { op = Read; slot = 0; block = lent.block; parts = lent.parts; ticket = c.args.ticket } in
    carried c.args.mount.now c.args.file lent sent c.run_one-bio.result.0 c.fill_back-ticket.result.0 c.fill_back-ticket.result.1 c.run_one-bio.result.1 _ _
    c.args.pass.now c.run_one-bio.new.pass c.fill_back-ticket.new.pass c.close_ticket.new.pass c.run_one-bio.result.0.ticket.held c.fill_back-ticket.result.0.held
    (lent_claims c.run_one-bio.new.pass c.run_one-bio.result.0.ticket.held) (lent_claims c.run_one-bio.new.pass c.fill_back-ticket.result.0.held)
    refl refl c.run_one-bio.ensures.act c.run_one-bio.ensures.run c.run_one-bio.ensures.lane c.fill_back-ticket.ensures.turned
    c.fill_back-ticket.ensures.stripe c.fill_back-ticket.ensures.ticket c.close_ticket.ensures.closed
