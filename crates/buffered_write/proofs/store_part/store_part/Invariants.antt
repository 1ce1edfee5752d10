use Rattle.std.proofs.Common.{◌≡◌, None}
use Rattle.fault_device.specs.LaneView.{lane_seen}
use Rattle.buffered_write.specs.Lays.{CanLay, GoesOn}
use Rattle.buffered_write.specs.Pwrites.{Writes, progress}
use Rattle.buffered_write.proofs.store_part.store_part.Given as goal

abbrev pub invariant-loop : goal.invariant-loop
invariant-loop g l = record {
  goes : GoesOn l.mount l.file l.by l.pass;
  begun : l.pass.begun ≡ l.initial.pass.begun;
  can : CanLay l.mount l.file l.seen l.from l.to l.pass;
  same : l.iov ≡ l.initial.iov;
  writes : Writes l.mount l.file l.by l.from l.to (lane_seen (λ z. (goal.Fate-dyn g z).count z.1) (λ z. (goal.Fate-dyn g z).tells z.1) l.initial.lane) (lane_seen (λ z. (goal.Fate-dyn g z).count z.1) (λ z. (goal.Fate-dyn g z).tells z.1) l.lane) l.initial.pass l.pass l.initial.iov l.iov (progress l.from l.bios None);
}
