use Rattle.fault_device.specs.LaneView.{lane_seen}
use Rattle.buffered_write.proofs.ZeroLemmas.{HasComeTo}
use Rattle.buffered_write.proofs.zeroing.zero_span.Given as goal

abbrev pub invariant-loop : goal.invariant-loop
invariant-loop g l =
    HasComeTo l.mount l.file l.by l.from l.to (lane_seen (λ z. (goal.Fate-dyn g z).count z.1) (λ z. (goal.Fate-dyn g z).tells z.1) l.initial.lane) (lane_seen (λ z. (goal.Fate-dyn g z).count z.1) (λ z. (goal.Fate-dyn g z).tells z.1) l.lane) l.initial.pass l.pass l.came l.iter
