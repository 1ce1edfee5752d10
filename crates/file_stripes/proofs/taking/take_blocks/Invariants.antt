use Rattle.std.proofs.Common.{drop}
use Rattle.file_stripes.specs.Kinds.{numbers_of}
use Rattle.file_stripes.proofs.TakingLemmas.{Going}
use Rattle.file_stripes.proofs.taking.take_blocks.Given as goal

abbrev pub invariant-loop-i : goal.invariant-loop-i
invariant-loop-i l = Going (numbers_of (drop l.i l.kinds)) (numbers_of l.kinds) l.held.items l.initial.held.items l.places.items l.initial.places.items
