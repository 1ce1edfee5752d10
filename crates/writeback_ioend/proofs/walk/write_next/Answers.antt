use Rattle.std.proofs.Common.{◌+◌, subst, sym, arith}
use Rattle.mini_fs.proofs.MapSteps.{look-ready}
use Rattle.writeback_ioend.specs.Walks.{WalksOn}
use Rattle.writeback_ioend.proofs.FindPieces.{found-due, found-none, found-some}
use Rattle.writeback_ioend.proofs.FolioLemmas.{folio-behind, looked-through}
use Rattle.writeback_ioend.proofs.walk.write_next.Goals as goal

pub find_due-found-requires-clause-ready : goal.find_due-found-requires-clause-ready
find_due-found-requires-clause-ready g c =
    let order = c.requires.order in
    let within = c.requires.within in
    let most = c.min-most.ensures in
    look-ready c.args.mount.now c.args.file c.is_laid_out.ensures c.args.pass.now c.args.at c.min-most.result (omega (arith, order, within)) (omega (arith, most, order))

pub returns-in-None-clause-walks : goal.returns-in-None-clause-walks
returns-in-None-clause-walks g c =
    let order = c.requires.order in
    let within = c.requires.within in
    let most = c.min-most.ensures in
    subst (WalksOn c.args.mount.now c.args.file c.args.waits c.args.to c.args.at (c.args.at + c.min-most.result) _ _ c.args.pass.now c.find_due-found.new.pass) (sym c.nothing_written.ensures)
    (looked-through c.args.mount.now c.args.file c.args.waits c.args.to c.args.at c.min-most.result _ c.args.pass.now c.find_due-found.new.pass c.find_due-found.ensures.of c.find_due-found.ensures.tickets
    (found-none c.args.mount.now c.args.file c.args.waits c.args.at c.min-most.result c.is_laid_out.ensures (omega (arith, most, order)) (omega (arith, most, order, within)) (omega (arith, most)) c.args.pass.now c.find_due-found.new.pass c.find_due-found.result c.find_due-found.ensures.turned c.in-None.is)
    order (omega (arith, most, order)))

pub returns-in-Some-clause-walks : goal.returns-in-Some-clause-walks
returns-in-Some-clause-walks g c =
    let order = c.requires.order in
    let within = c.requires.within in
    let most = c.min-most.ensures in
    folio-behind c.args.mount.now c.args.file c.args.waits c.args.to c.args.at c.in-Some.due c.write_folio.result.0 _ _ c.args.pass.now c.find_due-found.new.pass c.write_folio.new.pass c.write_folio.result.1 c.requires.of c.find_due-found.ensures.of c.find_due-found.ensures.tickets
    (found-some c.args.mount.now c.args.file c.args.waits c.args.at c.min-most.result c.is_laid_out.ensures (omega (arith, most, order)) (omega (arith, most, order, within)) (omega (arith, most)) c.args.pass.now c.find_due-found.new.pass c.find_due-found.result c.find_due-found.ensures.turned c.in-Some.due c.in-Some.is)
    (found-due c.args.mount.now c.args.file c.args.waits c.args.at c.min-most.result c.is_laid_out.ensures (omega (arith, most, order)) (omega (arith, most, order, within)) (omega (arith, most)) c.args.pass.now c.find_due-found.new.pass c.find_due-found.result c.find_due-found.ensures.turned c.in-Some.due c.in-Some.is)
    c.write_folio.ensures.walked
