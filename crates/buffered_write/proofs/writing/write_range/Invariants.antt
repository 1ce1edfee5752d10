use Rattle.fault_device.specs.LaneView.{lane_seen}
use Rattle.buffered_write.proofs.WriteLemmas.{HasReached}
use Rattle.buffered_write.proofs.writing.write_range.Given as goal

abbrev pub invariant-loop : goal.invariant-loop
invariant-loop g l =
    HasReached l.mount l.file l.by l.from l.to (lane_seen (λ z. (goal.Fate-dyn g z).count z.1) (λ z. (goal.Fate-dyn g z).tells z.1) l.initial.lane) (lane_seen (λ z. (goal.Fate-dyn g z).count z.1) (λ z. (goal.Fate-dyn g z).tells z.1) l.lane) l.initial.pass l.pass l.initial.iov l.iov
    l.came l.iter
