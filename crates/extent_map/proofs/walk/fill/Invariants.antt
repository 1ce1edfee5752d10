use Rattle.std.proofs.Common.{◌≡◌}
use Rattle.extent_map.specs.BlockKinds.{with_run}
use Rattle.extent_map.proofs.walk.fill.Given as goal

abbrev pub invariant-loop-i : goal.invariant-loop-i
invariant-loop-i l = l.kinds.items ≡ with_run l.initial.kinds.items l.b l.i l.kind
