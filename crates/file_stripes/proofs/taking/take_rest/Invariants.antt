use Rattle.std.proofs.Common.{◌≡◌}
use Rattle.file_stripes.specs.Taking.{somes}
use Rattle.file_stripes.proofs.taking.take_rest.Given as goal

abbrev pub invariant-loop-place : goal.invariant-loop-place
invariant-loop-place l = l.free.items ≡ somes l.yielded
