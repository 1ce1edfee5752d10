use Rattle.std.proofs.Common.{◌≡◌, None}
use Rattle.fault_device.specs.LaneView.{lane_seen}
use Rattle.buffered_write.specs.Lays.{GoesAt, LieUnder}
use Rattle.buffered_write.specs.Pwrites.{progress}
use Rattle.buffered_write.specs.Zeroes.{Zeroes}
use Rattle.buffered_write.proofs.zero_part.zero_part.Given as goal

abbrev pub invariant-loop : goal.invariant-loop
invariant-loop g l = record {
  goes : GoesAt l.mount l.file l.by l.pass;
  begun : l.pass.begun ≡ l.initial.pass.begun;
  under : LieUnder l.mount l.file l.seen l.from l.to l.pass;
  zeroes : Zeroes l.mount l.file l.by l.from l.to (lane_seen (λ z. (goal.Fate-dyn g z).count z.1) (λ z. (goal.Fate-dyn g z).tells z.1) l.initial.lane) (lane_seen (λ z. (goal.Fate-dyn g z).count z.1) (λ z. (goal.Fate-dyn g z).tells z.1) l.lane) l.initial.pass l.pass (progress l.from l.bios None);
}
