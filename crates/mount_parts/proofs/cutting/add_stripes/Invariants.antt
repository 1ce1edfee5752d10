use Rattle.std.proofs.Common.{◌≡◌, ◌++◌, map}
use Rattle.mount_parts.specs.Pieces.{piece_of}
use Rattle.mount_parts.proofs.cutting.add_stripes.Given as goal

abbrev pub invariant-loop-stripe : goal.invariant-loop-stripe
invariant-loop-stripe l = l.pieces.items ≡ l.initial.pieces.items ++ map (piece_of l.mode l.size) l.yielded
