use Rattle.std.proofs.Common.{◌≡◌, drop}
use Rattle.io_model.specs.Kinds.{kind_at}
use Rattle.mount_parts.proofs.kinds.kind_of.Given as goal

abbrev pub invariant-loop-extent : goal.invariant-loop-extent
invariant-loop-extent l = kind_at (drop l.extent-index l.extents) l.block ≡ kind_at l.extents l.block
