use Rattle.std.proofs.Common.{◌-◌}
use Rattle.fault_device.specs.LaneView.{lane_seen}
use Rattle.buffered_write.proofs.ZeroLemmas.{HasZeroed}
use Rattle.buffered_write.proofs.zeroing.zero_mapping.Given as goal

abbrev pub invariant-loop-came : goal.invariant-loop-came
invariant-loop-came g l =
    HasZeroed l.mount l.file l.by l.seen l.from l.to (lane_seen (λ z. (goal.Fate-dyn g z).count z.1) (λ z. (goal.Fate-dyn g z).tells z.1) l.initial.lane) (lane_seen (λ z. (goal.Fate-dyn g z).count z.1) (λ z. (goal.Fate-dyn g z).tells z.1) l.lane) l.initial.pass l.pass l.came

abbrev pub decreases-loop-came : goal.decreases-loop-came
decreases-loop-came g l = l.to - l.came.at
