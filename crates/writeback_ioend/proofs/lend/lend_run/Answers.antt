use Rattle.std.proofs.Common.{refl, subst, sym}
use Rattle.iob_base.specs.declared.stamp.Op.TheVariants.{Write}
use Rattle.bio_pages.specs.declared.bio.Bio.{Bio}
use Rattle.mini_fs.specs.TicketView.{TicketView}
use Rattle.mini_fs.specs.Tickets.{lent_claims}
use Rattle.writeback_ioend.specs.Folios.{Came}
use Rattle.writeback_ioend.proofs.LendPieces.{lend-ready, lent-run, no-try, refused-run}
use Rattle.writeback_ioend.proofs.lend.lend_run.Goals as goal

pub lend_writeback-ticket-requires-clause-ready : goal.lend_writeback-ticket-requires-clause-ready
lend_writeback-ticket-requires-clause-ready g c =
    lend-ready c.args.mount.now c.args.file c.args.at c.args.end c.requires.some c.requires.within c.requires.stripe c.is_laid_out.ensures c.args.pass.now c.ticket-ticket.new.pass c.ticket-ticket.result c.ticket-ticket.ensures.opened

pub returns-in_default-clause-came : goal.returns-in_default-clause-came
returns-in_default-clause-came g c = no-try c.args.mount.now c.args.file c.args.at c.args.end c.requires.some c.requires.within c.requires.stripe c.args.waits c.args.slot c.args.pass.now

pub returns-in-Ok-answer-clause-came : goal.returns-in-Ok-answer-clause-came
returns-in-Ok-answer-clause-came g c =
    let lent = c.in-Ok-answer.field-0 in
    let bio : Bio TicketView = record { op = Write; slot = c.args.slot; block = lent.block; parts = lent.parts; ticket = c.lend_writeback-ticket.result.0 } in
    lent-run c.args.mount.now c.args.file c.args.at c.args.end c.requires.some c.requires.within c.requires.stripe c.is_laid_out.ensures c.args.waits c.args.slot
    c.args.pass.now c.ticket-ticket.new.pass c.lend_writeback-ticket.new.pass c.ticket-ticket.result c.lend_writeback-ticket.result.0 _ c.ticket-ticket.result.held c.lend_writeback-ticket.result.0.held
    (lent_claims c.ticket-ticket.new.pass c.ticket-ticket.result.held) (lent_claims c.ticket-ticket.new.pass c.lend_writeback-ticket.result.0.held) c.lend_writeback-ticket.result.1
    c.requires.share c.ticket-ticket.ensures.opened c.lend_writeback-ticket.ensures.turned c.lend_writeback-ticket.ensures.stripe c.lend_writeback-ticket.ensures.of lent.ticket bio refl c.in-Ok-answer.is c.lend_writeback-ticket.ensures.held c.lend_writeback-ticket.ensures.ticket

pub returns-in-Err-clause-came : goal.returns-in-Err-clause-came
returns-in-Err-clause-came g c =
    subst (Came c.args.mount.now c.args.file c.args.waits c.args.slot c.args.at c.args.end c.args.pass.now c.close_ticket.new.pass) (sym c.passed_at.ensures)
    (refused-run c.args.mount.now c.args.file c.args.at c.args.end c.requires.some c.requires.within c.requires.stripe c.is_laid_out.ensures c.args.waits c.args.slot
    c.args.pass.now c.ticket-ticket.new.pass c.lend_writeback-ticket.new.pass c.ticket-ticket.result c.lend_writeback-ticket.result.0 _ c.ticket-ticket.result.held c.lend_writeback-ticket.result.0.held
    (lent_claims c.ticket-ticket.new.pass c.ticket-ticket.result.held) (lent_claims c.ticket-ticket.new.pass c.lend_writeback-ticket.result.0.held) c.lend_writeback-ticket.result.1
    c.requires.share c.ticket-ticket.ensures.opened c.lend_writeback-ticket.ensures.turned c.lend_writeback-ticket.ensures.stripe
    c.close_ticket.new.pass c.in-Err.refused c.in-Err.is c.requires.of c.lend_writeback-ticket.ensures.ticket c.close_ticket.ensures.closed)
