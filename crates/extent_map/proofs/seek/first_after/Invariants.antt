use Rattle.std.proofs.Common.{◌≡◌}
use Rattle.extent_map.proofs.Seeking.{sought, sought_from}
use Rattle.extent_map.proofs.seek.first_after.Given as goal

abbrev pub invariant-loop-next : goal.invariant-loop-next
invariant-loop-next l = sought l.hole l.b l.runs ≡ sought_from l.hole l.next l.runs
