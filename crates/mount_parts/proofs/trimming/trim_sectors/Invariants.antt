use Rattle.std.proofs.Common.{◌+◌, ◌-◌}
use Rattle.std.specs.Vec.Iter.{into_iter_items}
use Rattle.file_stripes.specs.Kinds.{kinds_from}
use Rattle.mount_parts.proofs.Trimmings.{TrimsOn}
use Rattle.mount_parts.proofs.trimming.trim_sectors.Given as goal

abbrev pub invariant-loop-i : goal.invariant-loop-i
invariant-loop-i l = TrimsOn l.size l.end (l.first + l.i) (kinds_from l.extents (l.first + l.i) (l.blocks - l.i)) l.done.items (into_iter_items l.rest) l.first (kinds_from l.extents l.first l.blocks) (into_iter_items l.initial.rest)
