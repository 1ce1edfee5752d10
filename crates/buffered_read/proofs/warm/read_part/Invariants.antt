use Rattle.std.proofs.Common.{◌≡◌}
use Rattle.fault_device.specs.LaneView.{lane_seen}
use Rattle.mini_fs.specs.PassView.{IsPassOf}
use Rattle.buffered_read.proofs.AimLemmas.{IsAim}
use Rattle.buffered_read.proofs.warm.read_part.Given as goal

abbrev pub invariant-loop : goal.invariant-loop
invariant-loop g l = record {
  of : IsPassOf l.mount l.pass;
  begun : l.pass.begun ≡ l.fn.pass.begun;
  aim : IsAim l.mount l.file l.by l.from l.to (lane_seen (λ z. (goal.Fate-dyn g z).count z.1) (λ z. (goal.Fate-dyn g z).tells z.1) l.initial.lane) (lane_seen (λ z. (goal.Fate-dyn g z).count z.1) (λ z. (goal.Fate-dyn g z).tells z.1) l.lane) l.initial.pass l.pass l.initial.iov l.iov l.aim;
}
