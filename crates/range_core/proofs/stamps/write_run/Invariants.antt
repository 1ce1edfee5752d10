use Rattle.std.proofs.Common.{◌≡◌}
use Rattle.range_core.specs.Stamps.{journaled, stamps_from}
use Rattle.range_core.proofs.stamps.write_run.Given as goal

abbrev pub invariant-loop-i : goal.invariant-loop-i
invariant-loop-i l = l.ends.items ≡ journaled l.first (stamps_from l.stamped.first l.i l.stamped.stamp) l.initial.ends.items
