use Rattle.std.proofs.Common.{◌≡◌, drop, take}
use Rattle.std.specs.Vec.Iter.{into_iter_items}
use Rattle.file_stripes.proofs.cutting.take_sectors.Given as goal

abbrev pub invariant-loop : goal.invariant-loop
invariant-loop l =
    (l.sectors.items ≡ take l.counter (into_iter_items l.initial.held)) × (into_iter_items l.held ≡ drop l.counter (into_iter_items l.initial.held))
