use Rattle.std.proofs.Common.{◌≡◌, ◌-◌}
use Rattle.fault_device.specs.LaneView.{lane_seen}
use Rattle.mini_fs.specs.PassView.{IsPassOf}
use Rattle.buffered_read.proofs.ReadLemmas.{IsReadSoFar}
use Rattle.buffered_read.proofs.waits.read_mapping.Given as goal

abbrev pub invariant-loop-at : goal.invariant-loop-at
invariant-loop-at g l = record {
  of : IsPassOf l.mount l.pass;
  begun : l.pass.begun ≡ l.fn.pass.begun;
  so : IsReadSoFar l.mount l.file l.by l.from l.to (lane_seen (λ z. (goal.Fate-dyn g z).count z.1) (λ z. (goal.Fate-dyn g z).tells z.1) l.initial.lane) (lane_seen (λ z. (goal.Fate-dyn g z).count z.1) (λ z. (goal.Fate-dyn g z).tells z.1) l.lane) l.initial.pass l.pass l.initial.iov l.iov l.at l.bios;
}

abbrev pub decreases-loop-at : goal.decreases-loop-at
decreases-loop-at g l = l.to - l.at
