use Rattle.std.proofs.Common.{◌≡◌, ◌*◌, ◌≤◌, ◌++◌, drop}
use Rattle.mount_parts.specs.FilePlaces.{places_from}
use Rattle.mount_parts.proofs.placing.place_files.Given as goal

abbrev pub invariant-loop-i : goal.invariant-loop-i
invariant-loop-i l = record {
  places : l.places.items ++ places_from l.stripe l.cell (drop l.i l.files) ≡ places_from 0 0 l.files;
  stripes : l.stripe ≤ l.i * 1024;
  cells : l.cell ≤ l.i;
}
