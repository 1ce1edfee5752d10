use Rattle.std.proofs.Common.{◌≡◌, ◌<◌, sym, ap, ◌∙◌, subst, arith}
use Rattle.bio_pages.specs.declared.bio.Bio.{Bio}
use Rattle.mount_parts.specs.MountView.{HasBlock, stripe_at}
use Rattle.mini_fs.specs.PassView.{share_at}
use Rattle.mini_fs.specs.TicketView.{TicketView}
use Rattle.worked_mounts.proofs.Going.{Goes, alone-goes, goes-then, goes-turn, share-goes}
use Rattle.worked_mounts.proofs.Lending.{goes-bios, goes-ticket, lend-ready, share-there}
use Rattle.worked_mounts.proofs.mount_writes.write_back.Goals as goal

pub ticket-ticket-requires-clause-share : goal.ticket-ticket-requires-clause-share
ticket-ticket-requires-clause-share g c =
    let within = c.expect_run.ensures.within in
    let has : HasBlock c.args.mount.now c.args.file c.args.block = omega (arith, within) in
    subst (λ n. 1 < n) (sym (share-there c.args.mount.now c.args.file c.args.pass.now c.args.block c.is_laid_out.ensures c.requires.alone has)) c.requires.share

pub lend_writeback-ticket-requires-clause-ready : goal.lend_writeback-ticket-requires-clause-ready
lend_writeback-ticket-requires-clause-ready g c =
    let is = c.ticket-ticket.ensures.opened.ticket_is in
    lend-ready c.args.mount.now c.args.file c.ticket-ticket.new.pass c.ticket-ticket.result.stripe c.args.block c.ticket-ticket.result.held c.is_laid_out.ensures (ap (λ (t : TicketView). t.stripe) is) (ap (λ (t : TicketView). t.held) is) c.expect_run.ensures.within

pub returns-clause-alone : goal.returns-clause-alone
returns-clause-alone g c =
    let m = c.args.mount.now in
    let p = c.args.pass.now in
    let q = c.ticket-ticket.new.pass in
    let lent = c.lend_writeback-ticket.new.pass in
    let ran = c.run_one.new.pass in
    let r = c.written_back-ticket.new.pass in
    let s = c.close_ticket.new.pass in
    let k = stripe_at m c.args.file c.args.block in
    let within = c.expect_run.ensures.within in
    let has : HasBlock m c.args.file c.args.block = omega (arith, within) in
    let more : 1 < share_at p k = subst (λ n. 1 < n) (sym (share-there m c.args.file p c.args.block c.is_laid_out.ensures c.requires.alone has)) c.requires.share in
    let away : Goes q r = goes-then q lent r (goes-turn c.lend_writeback-ticket.ensures.turned) (goes-then lent ran r (goes-bios lent ran ran.bios c.in_ok-bio.ensures.pass) (goes-turn c.written_back-ticket.ensures.turned)) in
    let home : c.written_back-ticket.result.0.stripe ≡ k =
    c.written_back-ticket.ensures.stripe ∙ ap (λ (b : Bio TicketView). b.ticket.stripe) c.in_ok-bio.ensures.run.bio ∙ c.lend_writeback-ticket.ensures.stripe
    ∙ ap (λ (t : TicketView). t.stripe) c.ticket-ticket.ensures.opened.ticket_is
    in
    alone-goes m p s c.requires.alone c.close_ticket.ensures.of
    (goes-ticket p q r s k c.ticket-ticket.result c.written_back-ticket.result.0 c.ticket-ticket.ensures.opened more away c.written_back-ticket.ensures.ticket home c.close_ticket.ensures.closed)

pub returns-clause-share : goal.returns-clause-share
returns-clause-share g c =
    let m = c.args.mount.now in
    let p = c.args.pass.now in
    let q = c.ticket-ticket.new.pass in
    let lent = c.lend_writeback-ticket.new.pass in
    let ran = c.run_one.new.pass in
    let r = c.written_back-ticket.new.pass in
    let s = c.close_ticket.new.pass in
    let k = stripe_at m c.args.file c.args.block in
    let within = c.expect_run.ensures.within in
    let has : HasBlock m c.args.file c.args.block = omega (arith, within) in
    let more : 1 < share_at p k = subst (λ n. 1 < n) (sym (share-there m c.args.file p c.args.block c.is_laid_out.ensures c.requires.alone has)) c.requires.share in
    let away : Goes q r = goes-then q lent r (goes-turn c.lend_writeback-ticket.ensures.turned) (goes-then lent ran r (goes-bios lent ran ran.bios c.in_ok-bio.ensures.pass) (goes-turn c.written_back-ticket.ensures.turned)) in
    let home : c.written_back-ticket.result.0.stripe ≡ k =
    c.written_back-ticket.ensures.stripe ∙ ap (λ (b : Bio TicketView). b.ticket.stripe) c.in_ok-bio.ensures.run.bio ∙ c.lend_writeback-ticket.ensures.stripe
    ∙ ap (λ (t : TicketView). t.stripe) c.ticket-ticket.ensures.opened.ticket_is
    in
    share-goes p s
    (goes-ticket p q r s k c.ticket-ticket.result c.written_back-ticket.result.0 c.ticket-ticket.ensures.opened more away c.written_back-ticket.ensures.ticket home c.close_ticket.ensures.closed)
