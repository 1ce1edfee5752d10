use Rattle.std.proofs.Common.{◌≡◌, length}
use Rattle.worked_cells.proofs.maps.answers_as_the_plain_map.Given as goal

abbrev pub invariant-loop : goal.invariant-loop
invariant-loop g l = record {
  map : length l.map.kinds ≡ 64;
  plain : length l.plain.kinds ≡ 64;
}
