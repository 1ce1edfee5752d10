use Rattle.std.proofs.Common.{◌≡◌, map}
use Rattle.mount_parts.specs.FileEnds.{run_end}
use Rattle.mount_parts.proofs.apart.part_ends.Given as goal

abbrev pub invariant-loop-end : goal.invariant-loop-end
invariant-loop-end l = record {
  runs : l.runs.items ≡ map (λ e. run_end e.extents e.blocks) l.yielded;
  seats : l.seats.items ≡ map (λ e. e.seat) l.yielded;
}
