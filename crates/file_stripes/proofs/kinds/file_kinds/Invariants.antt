use Rattle.std.proofs.Common.{◌≡◌, ◌-◌, drop, length}
use Rattle.file_stripes.specs.Kinds.{kinds_from}
use Rattle.file_stripes.proofs.kinds.file_kinds.Given as goal

abbrev pub invariant-loop-i : goal.invariant-loop-i
invariant-loop-i l = l.kinds.items ≡ kinds_from (drop (length l.extents - l.i) l.extents) 0 l.file.blocks
