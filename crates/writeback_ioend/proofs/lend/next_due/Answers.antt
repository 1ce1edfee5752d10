use Rattle.std.proofs.Common.{◌+◌, ◌-◌, arith}
use Rattle.mini_fs.proofs.MapSteps.{look-ready}
use Rattle.writeback_ioend.proofs.FindPieces.{found-look, found-none}
use Rattle.writeback_ioend.proofs.LendLemmas.{looked-to, no-look}
use Rattle.writeback_ioend.proofs.lend.next_due.Goals as goal

pub returns-then-at-end-clause-looked : goal.returns-then-at-end-clause-looked
returns-then-at-end-clause-looked g c = λ waits. no-look c.args.mount.now c.args.file waits c.args.at c.args.end c.args.pass.now c.if-at-end.true

pub find_due-found-requires-clause-ready : goal.find_due-found-requires-clause-ready
find_due-found-requires-clause-ready g c =
    let order = c.requires.order in
    let more = c.if-at-end.false in
    let within = c.requires.within in
    let stripe = c.requires.stripe in
    look-ready c.args.mount.now c.args.file c.is_laid_out.ensures c.args.pass.now c.args.at (c.args.end - c.args.at) (omega (arith, order, more, within)) (omega (arith, order, more))

pub returns-in-None-clause-looked : goal.returns-in-None-clause-looked
returns-in-None-clause-looked g c = λ waits.
    let order = c.requires.order in
    let more = c.if-at-end.false in
    let within = c.requires.within in
    looked-to c.args.mount.now c.args.file waits c.args.at (c.args.at + (c.args.end - c.args.at)) c.args.end c.args.pass.now c.find_due-found.new.pass (omega (arith, order))
    (found-none c.args.mount.now c.args.file waits c.args.at (c.args.end - c.args.at) c.is_laid_out.ensures (omega (arith, order, more)) (omega (arith, order, within)) c.requires.stripe c.args.pass.now c.find_due-found.new.pass c.find_due-found.result c.find_due-found.ensures.turned c.in-None.is)

pub returns-in-Some-clause-looked : goal.returns-in-Some-clause-looked
returns-in-Some-clause-looked g c = λ waits.
    let order = c.requires.order in
    let more = c.if-at-end.false in
    let within = c.requires.within in
    found-look c.args.mount.now c.args.file waits c.args.at (c.args.end - c.args.at) c.is_laid_out.ensures (omega (arith, order, more)) (omega (arith, order, within)) c.requires.stripe c.args.pass.now c.find_due-found.new.pass c.find_due-found.result c.find_due-found.ensures.turned c.in-Some.due c.args.end c.in-Some.is
