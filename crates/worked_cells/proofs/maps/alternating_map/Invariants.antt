use Rattle.std.proofs.Common.{◌≡◌, ◌+◌, ◌*◌, ◌≤◌, length}
use Rattle.worked_cells.proofs.maps.alternating_map.Given as goal

abbrev pub invariant-loop-i : goal.invariant-loop-i
invariant-loop-i l = record {
  blocks : length l.map.kinds ≡ 65536;
  cuts : 65536 ≤ l.map.spare + 2 * l.i;
}
