use Rattle.std.proofs.Common.{◌≡◌, take}
use Rattle.file_stripes.specs.Runs.{placed}
use Rattle.file_stripes.proofs.runs.keep_placed.Given as goal

abbrev pub invariant-loop-i : goal.invariant-loop-i
invariant-loop-i l = l.kept.items ≡ placed (take l.i l.extents)
