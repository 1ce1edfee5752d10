use Rattle.std.specs.Vec.Iter.{into_iter_items}
use Rattle.mount_parts.proofs.FileEndings.{EndedSoFar}
use Rattle.mount_parts.proofs.file_ending.end_files.Given as goal

abbrev pub invariant-loop-i : goal.invariant-loop-i
invariant-loop-i l = EndedSoFar l.files (into_iter_items l.initial.runs) (into_iter_items l.initial.sizes) l.i (into_iter_items l.runs) (into_iter_items l.sizes) l.ends.items
