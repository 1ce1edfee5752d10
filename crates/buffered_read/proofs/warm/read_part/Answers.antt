use Rattle.std.proofs.Common.{◌-◌, sym, ◌∙◌, refl, subst, arith}
use Rattle.range_core.specs.ByteRuns.{HasNext}
use Rattle.mini_fs.proofs.CallEnds.{acted-caller}
use Rattle.buffered_read.specs.Preads.{may_read}
use Rattle.buffered_read.proofs.AimLemmas.{RoundIs, aim-first, aim-iov, aim-within, next-fewer, part-before, round-so, some-size}
use Rattle.buffered_read.proofs.WarmLemmas.{shares-after}
use Rattle.buffered_read.proofs.warm.read_part.Goals as goal

pub loop-init : goal.loop-init
loop-init g c = record {
  of = c.requires.of;
  begun = refl;
  aim = aim-first c.args.mount.now c.args.file c.args.by c.args.from c.args.to c.requires.some _ c.args.pass.now c.args.iov.now c.requires.of;
}

pub try_part-tried-requires-clause-caller : goal.try_part-tried-requires-clause-caller
try_part-tried-requires-clause-caller g c = let read = c.loop.invariant.aim.read in c.requires.caller ∙ sym (acted-caller read.acts c.args.pass.now c.loop.pass read.steps.did.acted)

pub try_part-tried-requires-clause-shares : goal.try_part-tried-requires-clause-shares
try_part-tried-requires-clause-shares g c = let read = c.loop.invariant.aim.read in shares-after c.args.mount.now c.args.file (may_read c.args.by) 2 c.args.pass.now c.loop.pass read.acts (omega arith) read.steps.did c.requires.shares

pub try_part-tried-requires-clause-within : goal.try_part-tried-requires-clause-within
try_part-tried-requires-clause-within g c =
    let most = aim-within c.args.mount.now c.args.file c.args.by c.args.from c.args.to _ _ c.args.pass.now c.loop.pass c.args.iov.now c.loop.iov c.loop.aim c.loop.invariant.aim in
    let end = c.requires.within in
    omega (arith, most, end)

pub try_part-tried-requires-clause-part : goal.try_part-tried-requires-clause-part
try_part-tried-requires-clause-part g c =
    part-before c.args.mount.now c.args.from c.args.to c.loop.aim.at c.requires.part (aim-within c.args.mount.now c.args.file c.args.by c.args.from c.args.to _ _ c.args.pass.now c.loop.pass c.args.iov.now c.loop.iov c.loop.aim c.loop.invariant.aim)

pub try_part-tried-requires-clause-room : goal.try_part-tried-requires-clause-room
try_part-tried-requires-clause-room g c =
    let most = aim-within c.args.mount.now c.args.file c.args.by c.args.from c.args.to _ _ c.args.pass.now c.loop.pass c.args.iov.now c.loop.iov c.loop.aim c.loop.invariant.aim in
    subst (λ v. HasNext v (c.loop.aim.at - c.args.from)) (sym (aim-iov c.args.mount.now c.args.file c.args.by c.args.from c.args.to _ _ c.args.pass.now c.loop.pass c.args.iov.now c.loop.iov c.loop.aim c.loop.invariant.aim))
    (next-fewer c.args.iov.now (c.args.to - c.args.from) (c.loop.aim.at - c.args.from) (omega (arith, most)) c.requires.room)

pub returns-in-Came-clause-read : goal.returns-in-Came-clause-read
returns-in-Came-clause-read g c =
    subst (RoundIs c.args.mount.now c.args.file c.args.by c.args.from c.args.to _ _ c.args.pass.now c.try_part-tried.new.pass c.args.iov.now c.try_part-tried.new.iov) (sym c.in-Came.ensures)
    (round-so c.args.mount.now c.args.file c.args.by c.args.from c.args.to (some-size c.args.mount.now c.args.file c.args.from c.args.to c.requires.some c.requires.within) _ _ _ c.args.pass.now c.loop.pass c.try_part-tried.new.pass c.args.iov.now c.loop.iov c.try_part-tried.new.iov
    c.requires.of c.requires.room c.loop.aim c.loop.invariant.aim c.try_part-tried.result c.try_part-tried.ensures.tried)

pub loop-preserved : goal.loop-preserved
loop-preserved g c = record {
  of = c.try_part-tried.ensures.of;
  begun = c.try_part-tried.ensures.begun ∙ c.loop.invariant.begun;
  aim =
      subst (RoundIs c.args.mount.now c.args.file c.args.by c.args.from c.args.to _ _ c.args.pass.now c.try_part-tried.new.pass c.args.iov.now c.try_part-tried.new.iov) (sym c.in-Again.ensures)
      (round-so c.args.mount.now c.args.file c.args.by c.args.from c.args.to (some-size c.args.mount.now c.args.file c.args.from c.args.to c.requires.some c.requires.within) _ _ _ c.args.pass.now c.loop.pass c.try_part-tried.new.pass c.args.iov.now c.loop.iov c.try_part-tried.new.iov
      c.requires.of c.requires.room c.loop.aim c.loop.invariant.aim c.try_part-tried.result c.try_part-tried.ensures.tried);
}
