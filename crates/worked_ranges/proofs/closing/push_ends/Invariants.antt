use Rattle.std.proofs.Common.{◌≡◌, ◌++◌}
use Rattle.worked_ranges.specs.SmallEnds.{end_numbers}
use Rattle.worked_ranges.proofs.closing.push_ends.Given as goal

abbrev pub invariant-loop-end : goal.invariant-loop-end
invariant-loop-end l = l.numbers.items ≡ l.initial.numbers.items ++ end_numbers l.yielded
