use Rattle.std.proofs.Common.{◌≡◌, ◌≤◌, ◌-◌, ◌++◌}
use Rattle.std.specs.Option.{IfSome, IsSomeAnd}
use Rattle.std.specs.Vec.{vec_len}
use Rattle.iomap_replay.proofs.streams.read_all.Given as goal

abbrev pub invariant-loop-piece : goal.invariant-loop-piece
invariant-loop-piece g l =
    (g.S.Source.faults l.initial.source ≤ g.S.Source.faults l.source)
    × IfSome (g.S.Source.left l.initial.source) (λ bytes. IsSomeAnd (g.S.Source.left l.source) (λ rest. l.text.items ++ rest ≡ bytes))

abbrev pub decreases-loop-piece : goal.decreases-loop-piece
decreases-loop-piece g l = 16777217 - vec_len l.text
