use Rattle.std.proofs.Common.{◌≡◌, ◌+◌, ◌++◌, length, map}
use Rattle.std.specs.Vec.{vec_len}
use Rattle.iomap_replay.specs.Starts.{idle_end}
use Rattle.iomap_replay.proofs.lanes.idle_lanes.Given as goal

abbrev pub invariant-loop-left : goal.invariant-loop-left
invariant-loop-left g l =
    (length l.ends.items + length l.left.items ≡ length l.fn.fates.items) × (l.number ≡ length l.ends.items + 1)
    × (l.ends.items ++ map (λ f. idle_end ((goal.Fate-dyn g (f.vtable, f.value)).count f.value)) l.left.items
    ≡ map (λ f. idle_end ((goal.Fate-dyn g (f.vtable, f.value)).count f.value)) l.fn.fates.items)

abbrev pub decreases-loop-left : goal.decreases-loop-left
decreases-loop-left g l = vec_len l.left
