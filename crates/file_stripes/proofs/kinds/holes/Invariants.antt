use Rattle.std.proofs.Common.{◌≡◌, replicate}
use Rattle.io_model.specs.declared.file.Kind.TheVariants.{Hole}
use Rattle.file_stripes.proofs.kinds.holes.Given as goal

abbrev pub invariant-loop : goal.invariant-loop
invariant-loop l = l.kinds.items ≡ replicate l.counter Hole
