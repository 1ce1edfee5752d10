use Rattle.worked_mounts.specs.Begins.{IsDevice}
use Rattle.worked_mounts.proofs.mount_ground.device.Given as goal

abbrev pub invariant-loop-i : goal.invariant-loop-i
invariant-loop-i l = IsDevice l.blocks l.all.items
