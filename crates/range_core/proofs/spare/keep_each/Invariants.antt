use Rattle.std.proofs.Common.{◌+◌, ◌≤◌}
use Rattle.range_core.proofs.spare.keep_each.Given as goal

abbrev pub invariant-loop-part : goal.invariant-loop-part
invariant-loop-part l = l.spare ≤ l.initial.spare + l.part-index
