use Rattle.std.proofs.Common.{arith}
use Rattle.mount_parts.specs.MountView.{HasBlock}
use Rattle.mini_fs.specs.Tickets.{lent_claims}
use Rattle.call_parts.proofs.FillLemmas.{filled, fills-none, lend-ready, unfilled}
use Rattle.call_parts.proofs.cold.fill_cold.Goals as goal

pub returns-in_default-clause-filled : goal.returns-in_default-clause-filled
returns-in_default-clause-filled g c = fills-none c.args.mount.now c.args.file c.args.block c.args.most _ c.args.pass.now c.requires.of

pub lend_read-ticket-requires-clause-ready : goal.lend_read-ticket-requires-clause-ready
lend_read-ticket-requires-clause-ready g c =
    lend-ready c.args.mount.now c.args.file c.args.block c.args.most c.args.pass.now c.ticket-ticket.new.pass c.ticket-ticket.result
    c.is_laid_out.ensures c.requires.mode c.requires.some c.requires.within c.requires.stripe c.ticket-ticket.ensures.opened

pub returns-in-Ok-answer-clause-filled : goal.returns-in-Ok-answer-clause-filled
returns-in-Ok-answer-clause-filled g c =
    let some = c.requires.some in
    let within = c.requires.within in
    let has : HasBlock c.args.mount.now c.args.file c.args.block = omega (arith, some, within) in
    filled c.args.mount.now c.args.file c.args.block c.args.most c.args.pass.now c.ticket-ticket.new.pass c.lend_read-ticket.new.pass c.carry-done.new.pass c.ticket-ticket.result c.lend_read-ticket.result.0
    _ c.ticket-ticket.result.held c.lend_read-ticket.result.0.held (lent_claims c.ticket-ticket.new.pass c.ticket-ticket.result.held) (lent_claims c.ticket-ticket.new.pass c.lend_read-ticket.result.0.held) c.lend_read-ticket.result.1
    has c.requires.share c.ticket-ticket.ensures.opened c.lend_read-ticket.ensures.turned c.lend_read-ticket.ensures.stripe c.carry-done.ensures.of
    (λ t is. c.carry-done.ensures.tickets t (c.lend_read-ticket.ensures.tickets t (c.ticket-ticket.ensures.tickets t is)))
    _ _ c.in-Ok-answer.lent c.carry-done.result c.fill_after.result c.in-Ok-answer.is c.carry-done.ensures.carried c.fill_after.ensures

pub returns-in-Err-clause-filled : goal.returns-in-Err-clause-filled
returns-in-Err-clause-filled g c =
    let some = c.requires.some in
    let within = c.requires.within in
    let has : HasBlock c.args.mount.now c.args.file c.args.block = omega (arith, some, within) in
    unfilled c.args.mount.now c.args.file c.args.block c.args.most c.args.pass.now c.ticket-ticket.new.pass c.lend_read-ticket.new.pass c.close_ticket.new.pass c.ticket-ticket.result c.lend_read-ticket.result.0
    _ c.ticket-ticket.result.held c.lend_read-ticket.result.0.held (lent_claims c.ticket-ticket.new.pass c.ticket-ticket.result.held) (lent_claims c.ticket-ticket.new.pass c.lend_read-ticket.result.0.held) c.lend_read-ticket.result.1
    has c.requires.share c.ticket-ticket.ensures.opened c.lend_read-ticket.ensures.turned c.lend_read-ticket.ensures.stripe c.close_ticket.ensures.of
    (λ t is. c.close_ticket.ensures.tickets t (c.lend_read-ticket.ensures.tickets t (c.ticket-ticket.ensures.tickets t is)))
    _ c.in-Err.refused c.fill_refused.result c.in-Err.is c.lend_read-ticket.ensures.ticket c.close_ticket.ensures.closed c.fill_refused.ensures
