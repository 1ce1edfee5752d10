use Rattle.file_stripes.proofs.RunsLemmas.{Merging}
use Rattle.file_stripes.proofs.runs.merge_kinds.Given as goal

abbrev pub invariant-loop-i : goal.invariant-loop-i
invariant-loop-i l = Merging l.first l.kinds l.i l.extents.items
