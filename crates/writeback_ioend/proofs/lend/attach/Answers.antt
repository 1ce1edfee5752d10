use Rattle.std.proofs.Common.{subst, sym}
use Rattle.writeback_ioend.specs.Folios.{OneTurn}
use Rattle.writeback_ioend.proofs.LendPieces.{attach-ready, attached, not-attached}
use Rattle.writeback_ioend.proofs.lend.attach.Goals as goal

pub attach-requires-clause-ready : goal.attach-requires-clause-ready
attach-requires-clause-ready g c = attach-ready c.args.mount.now c.args.file c.args.at c.args.end c.requires.some c.requires.within c.requires.stripe c.is_laid_out.ensures c.args.pass.now

pub returns-in-Ok-clause-turned : goal.returns-in-Ok-clause-turned
returns-in-Ok-clause-turned g c = λ waits.
    attached c.args.mount.now c.args.file c.args.at c.args.end c.requires.some c.requires.within c.requires.stripe waits c.args.pass.now c.attach.new.pass _ _ c.attach.result c.attach.ensures.turned c.in-Ok.field-0 c.in-Ok.is

pub returns-in-Err-clause-turned : goal.returns-in-Err-clause-turned
returns-in-Err-clause-turned g c = λ waits.
    subst (OneTurn c.args.mount.now c.args.file waits c.args.at c.args.at c.args.pass.now c.attach.new.pass) (sym c.stopped_by.ensures)
    (not-attached c.args.mount.now c.args.file c.args.at c.args.end c.requires.some c.requires.within c.requires.stripe waits c.args.pass.now c.attach.new.pass _ _ c.attach.result c.attach.ensures.turned c.in-Err.fault c.in-Err.is)
