use Rattle.std.proofs.Common.{◌-◌, ◌≤◌}
use Rattle.mini_fs.specs.PassView.{IsPassOf}
use Rattle.buffered_write.specs.Allocates.{HasAllocated}
use Rattle.buffered_write.proofs.space.allocate_run.Given as goal

abbrev pub invariant-loop-at : goal.invariant-loop-at
invariant-loop-at g l = record {
  of : IsPassOf l.mount l.pass;
  low : l.from ≤ l.at;
  high : l.at ≤ l.to;
  allocated : HasAllocated l.mount l.file l.to l.from l.at l.initial.pass l.pass l.count;
}

abbrev pub decreases-loop-at : goal.decreases-loop-at
decreases-loop-at g l = l.to - l.at
