use Rattle.std.proofs.Common.{◌≡◌, [], subst, sym, length, arith}
use Rattle.iob_base.specs.declared.answer.Fault.TheVariants.{NoMemory}
use Rattle.writeback_ioend.specs.Walks.{WalksFolio}
use Rattle.writeback_ioend.proofs.FolioLemmas.{folio-stopped, folio-walked, lends-shares}
use Rattle.writeback_ioend.proofs.LendPieces.{no-folio}
use Rattle.writeback_ioend.proofs.folio.write_folio.Goals as goal

pub returns-in_default-clause-walked : goal.returns-in_default-clause-walked
returns-in_default-clause-walked g c =
    subst (WalksFolio c.args.mount.now c.args.file c.args.waits c.args.at c.args.at _ _ c.args.pass.now c.args.pass.now) (sym c.nothing_written.ensures)
    (folio-stopped c.args.mount.now c.args.file c.args.waits c.args.at _ c.args.pass.now c.args.pass.now NoMemory c.requires.of (λ t is. is) (no-folio c.args.mount.now c.args.file c.args.at c.args.end c.requires.some c.requires.within c.requires.stripe c.args.waits c.args.pass.now))

pub returns-in-Some-clause-walked : goal.returns-in-Some-clause-walked
returns-in-Some-clause-walked g c =
    subst (WalksFolio c.args.mount.now c.args.file c.args.waits c.args.at c.args.at _ _ c.args.pass.now c.attach.new.pass) (sym c.nothing_written-in-Some.ensures)
    (folio-stopped c.args.mount.now c.args.file c.args.waits c.args.at _ c.args.pass.now c.attach.new.pass c.in-Some.fault c.in-Some.ensures.of c.in-Some.ensures.tickets (c.in-Some.ensures.turned c.args.waits))

pub lend_runs-next-requires-clause-shares : goal.lend_runs-next-requires-clause-shares
lend_runs-next-requires-clause-shares g c = lends-shares c.args.mount.now c.args.file c.args.waits 0 c.args.at c.args.at c.args.pass.now c.attach.new.pass [] c.attach.result (c.attach.ensures.turned c.args.waits).lends c.requires.shares

pub returns-clause-walked : goal.returns-clause-walked
returns-clause-walked g c =
    let count : c.len-count.result ≡ length c.lend_runs-next.new.bios.items = (let len = c.len-count.ensures in let ok = c.lend_runs-next.new.bios.ok.0 in omega (arith, len, ok)) in
    folio-walked c.args.mount.now c.args.file c.args.waits c.args.at c.lend_runs-next.result.0 _ _ c.args.pass.now c.attach.new.pass c.lend_runs-next.new.pass c.send-blocks.new.pass c.lend_runs-next.new.numbers.items c.lend_runs-next.new.bios.items c.lend_runs-next.result.1 c.send-blocks.result.0 c.send-blocks.result.1
    c.requires.of (c.in_default-attach.ensures.turned c.args.waits) c.lend_runs-next.ensures.sought
    c.send-blocks.ensures.sent c.send-blocks.ensures.of (λ t is. c.send-blocks.ensures.tickets t (c.lend_runs-next.ensures.tickets t (c.attach.ensures.tickets t is))) c.len-count.result count
