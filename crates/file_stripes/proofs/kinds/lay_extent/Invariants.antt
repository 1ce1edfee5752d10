use Rattle.std.proofs.Common.{◌≡◌}
use Rattle.file_stripes.specs.Kinds.{kinds_over}
use Rattle.file_stripes.proofs.KindLemmas.{first_of}
use Rattle.file_stripes.proofs.kinds.lay_extent.Given as goal

abbrev pub invariant-loop-i : goal.invariant-loop-i
invariant-loop-i l = l.kinds.items ≡ kinds_over (first_of l.extent l.i) 0 l.initial.kinds.items
