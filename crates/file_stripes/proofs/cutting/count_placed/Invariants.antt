use Rattle.std.proofs.Common.{◌≡◌, length, take}
use Rattle.file_stripes.specs.Kinds.{numbers_of}
use Rattle.file_stripes.proofs.cutting.count_placed.Given as goal

abbrev pub invariant-loop-i : goal.invariant-loop-i
invariant-loop-i l = l.count ≡ length (numbers_of (take l.i l.kinds))
