use Rattle.std.proofs.Common.{◌*◌, None}
use Rattle.buffered_write.specs.Clears.{WipesTo}
use Rattle.buffered_write.specs.Lays.{GoesAt}
use Rattle.buffered_write.specs.Pwrites.{progress}
use Rattle.buffered_write.proofs.clearing.wipe_run.Given as goal

abbrev pub invariant-loop : goal.invariant-loop
invariant-loop g l = record {
  goes : GoesAt l.mount l.file l.by l.pass;
  wipes : WipesTo l.mount l.file l.by l.block l.blocks l.initial.pass l.pass (progress (l.block * l.mount.geometry.block_size) 0 None);
}
