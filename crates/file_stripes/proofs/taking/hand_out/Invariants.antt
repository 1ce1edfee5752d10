use Rattle.std.proofs.Common.{[], drop}
use Rattle.file_stripes.specs.Files.{numbers_of_files}
use Rattle.file_stripes.proofs.TakingLemmas.{Going}
use Rattle.file_stripes.proofs.taking.hand_out.Given as goal

abbrev pub invariant-loop-i : goal.invariant-loop-i
invariant-loop-i l = Going (numbers_of_files (drop l.i l.files)) (numbers_of_files l.files) l.held.items [] l.places.items l.initial.places.items
