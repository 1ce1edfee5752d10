use Rattle.std.proofs.Common.{◌≡◌, Some, map}
use Rattle.file_stripes.proofs.taking.put_in_places.Given as goal

abbrev pub invariant-loop-sector : goal.invariant-loop-sector
invariant-loop-sector l = l.places.items ≡ map Some l.yielded
