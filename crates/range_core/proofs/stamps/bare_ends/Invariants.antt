use Rattle.std.proofs.Common.{◌≡◌, map}
use Rattle.range_core.specs.Stamps.{bare_end}
use Rattle.range_core.proofs.stamps.bare_ends.Given as goal

abbrev pub invariant-loop-cell : goal.invariant-loop-cell
invariant-loop-cell l = l.ends.items ≡ map bare_end l.yielded
