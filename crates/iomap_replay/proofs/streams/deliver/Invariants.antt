use Rattle.std.proofs.Common.{◌≡◌, ◌≤◌, ◌-◌, ◌++◌, Some, length, take}
use Rattle.std.specs.Option.{IfSome}
use Rattle.iomap_replay.proofs.streams.deliver.Given as goal

abbrev pub invariant-loop-at : goal.invariant-loop-at
invariant-loop-at g l =
    (g.K.Sink.faults l.initial.sink ≤ g.K.Sink.faults l.sink) × (l.at ≤ length l.text)
    × IfSome (g.K.Sink.taken l.initial.sink) (λ bytes. g.K.Sink.taken l.sink ≡ Some (bytes ++ take l.at l.text))

abbrev pub decreases-loop-at : goal.decreases-loop-at
decreases-loop-at g l = length l.text - l.at
