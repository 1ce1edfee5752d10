use Rattle.std.proofs.Common.{◌≡◌, ◌+◌, length}
use Rattle.std.specs.Vec.Iter.{into_iter_items}
use Rattle.file_stripes.proofs.EndLemmas.{Joining}
use Rattle.file_stripes.proofs.joining.join_ends.Given as goal

abbrev pub invariant-loop : goal.invariant-loop
invariant-loop l =
    Joining (into_iter_items l.initial.rest) (into_iter_items l.rest) l.extents.items l.blocks.items × (l.counter + length (into_iter_items l.rest) ≡ l.count)
