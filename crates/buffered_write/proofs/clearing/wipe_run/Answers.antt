use Rattle.std.proofs.Common.{◌+◌, ◌*◌, Some, None, sym, subst}
use Rattle.buffered_write.specs.Clears.{StopsClear, WipesTo, wiped_to}
use Rattle.buffered_write.proofs.WipeLemmas.{wipe-stops, wipes-none, wipes-then}
use Rattle.buffered_write.proofs.clearing.wipe_run.Goals as goal

pub loop-init : goal.loop-init
loop-init g c = record {
  goes = c.requires.goes;
  wipes = wipes-none c.args.mount.now c.args.file c.args.by c.args.block c.args.blocks c.requires.sized c.args.pass.now c.requires.goes.of;
}

pub loop-preserved : goal.loop-preserved
loop-preserved g c = record {
  goes = c.wipe_once.ensures.goes;
  wipes = wipes-then c.args.mount.now c.args.file c.args.by c.args.block c.args.blocks c.requires.sized c.args.pass.now c.loop.pass c.wipe_once.new.pass (c.args.block * c.args.mount.now.geometry.block_size) None c.loop.invariant.wipes c.in-Err-Away.ensures.wiped.0;
}

pub returns-in-Ok-clause-wiped : goal.returns-in-Ok-clause-wiped
returns-in-Ok-clause-wiped g c =
    wipes-then c.args.mount.now c.args.file c.args.by c.args.block c.args.blocks c.requires.sized c.args.pass.now c.loop.pass c.wipe_once.new.pass ((c.args.block + c.args.blocks) * c.args.mount.now.geometry.block_size) None c.loop.invariant.wipes c.in-Ok.ensures.wiped

pub returns-in-Err-clause-wiped : goal.returns-in-Err-clause-wiped
returns-in-Err-clause-wiped g c =
    subst (λ f. WipesTo c.args.mount.now c.args.file c.args.by c.args.block c.args.blocks c.args.pass.now c.wipe_once.new.pass (wiped_to c.args.mount.now.geometry.block_size c.args.block c.args.blocks (Some f))) (sym c.wipe_fault.ensures)
    (wipes-then c.args.mount.now c.args.file c.args.by c.args.block c.args.blocks c.requires.sized c.args.pass.now c.loop.pass c.wipe_once.new.pass (c.args.block * c.args.mount.now.geometry.block_size) _ c.loop.invariant.wipes c.in-Err.ensures.wiped.1)

pub returns-in-Err-clause-fault : goal.returns-in-Err-clause-fault
returns-in-Err-clause-fault g c = subst StopsClear (sym c.wipe_fault.ensures) (wipe-stops c.in-Err.refused)
