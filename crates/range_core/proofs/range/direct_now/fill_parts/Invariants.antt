use Rattle.std.proofs.Common.{◌≡◌, drop}
use Rattle.range_core.specs.DirectNows.{parts_filled}
use Rattle.range_core.proofs.range.direct_now.fill_parts.Given as goal

abbrev pub invariant-loop-i : goal.invariant-loop-i
invariant-loop-i l = l.parts ≡ parts_filled l.size l.i (drop l.low l.cells.items) l.initial.parts
