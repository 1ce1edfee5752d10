use Rattle.mini_fs.specs.Tickets.{lent_claims}
use Rattle.mini_fs.proofs.Loaned.{returned-ready-writeback}
use Rattle.writeback_ioend.proofs.BackLemmas.{returned}
use Rattle.writeback_ioend.proofs.back.take_one.Goals as goal

pub written_back-ticket-requires-clause-ready : goal.written_back-ticket-requires-clause-ready
written_back-ticket-requires-clause-ready g c =
    let came = c.requires.back in
    returned-ready-writeback c.args.mount.now c.args.file c.args.number came.sent c.args.bio c.args.done came.run came.lent.loan c.args.pass.now

pub returns-clause-returns : goal.returns-clause-returns
returns-clause-returns g c =
    returned c.args.mount.now c.args.file c.args.number c.args.bio c.args.done c.written_back-ticket.result.0 c.written_back-ticket.result.1 c.args.pass.now c.written_back-ticket.new.pass c.close_ticket.new.pass
    c.args.bio.ticket.held c.written_back-ticket.result.0.held (lent_claims c.args.pass.now c.args.bio.ticket.held) (lent_claims c.args.pass.now c.written_back-ticket.result.0.held)
    c.requires.back c.written_back-ticket.ensures.turned c.written_back-ticket.ensures.stripe c.written_back-ticket.ensures.ticket c.close_ticket.ensures.closed
