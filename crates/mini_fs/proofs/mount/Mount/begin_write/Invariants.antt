use Rattle.mini_fs.specs.MapTurns.{MadeTurns}
use Rattle.mini_fs.specs.Mappings.{AreStale}
use Rattle.mini_fs.specs.PassView.{IsPassOf}
use Rattle.mini_fs.proofs.mount.Mount.begin_write.Given as goal

abbrev pub invariant-loop : goal.invariant-loop
invariant-loop g l = record {
  of : IsPassOf l.self l.pass;
  made : MadeTurns l.self l.file (AreStale l.block l.most) l.initial.pass l.pass;
}
