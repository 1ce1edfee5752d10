use Rattle.std.proofs.Common.{◌≡◌, length}
use Rattle.std.specs.Prelude.{All}
use Rattle.worked_ranges.specs.SmallRanges.{IsWholeAndBare}
use Rattle.worked_ranges.proofs.range_loans.fill_list.Given as goal

abbrev pub invariant-loop-i : goal.invariant-loop-i
invariant-loop-i l = (length l.parts ≡ l.i) × All IsWholeAndBare l.parts
