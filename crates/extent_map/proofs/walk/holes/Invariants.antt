use Rattle.std.proofs.Common.{◌≡◌}
use Rattle.std.specs.Prelude.{replicate}
use Rattle.io_model.specs.declared.file.Kind.TheVariants.{Hole}
use Rattle.extent_map.proofs.walk.holes.Given as goal

abbrev pub invariant-loop : goal.invariant-loop
invariant-loop l = l.kinds.items ≡ replicate l.counter Hole
