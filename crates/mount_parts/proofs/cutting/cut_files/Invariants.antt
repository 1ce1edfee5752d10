use Rattle.std.specs.Vec.Iter.{into_iter_items}
use Rattle.mount_parts.proofs.Cuts.{CutSoFar}
use Rattle.mount_parts.proofs.cutting.cut_files.Given as goal

abbrev pub invariant-loop-i : goal.invariant-loop-i
invariant-loop-i l = CutSoFar l.files l.i l.pieces.items (into_iter_items l.initial.rest) (into_iter_items l.rest)
