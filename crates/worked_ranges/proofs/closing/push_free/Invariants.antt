use Rattle.std.proofs.Common.{◌≡◌, ◌++◌}
use Rattle.space_pool.specs.Claims.{numbers_of}
use Rattle.worked_ranges.proofs.closing.push_free.Given as goal

abbrev pub invariant-loop-sector : goal.invariant-loop-sector
invariant-loop-sector l = l.numbers.items ≡ l.initial.numbers.items ++ numbers_of l.yielded
