use Rattle.std.proofs.Common.{◌≡◌, drop, take}
use Rattle.std.specs.Vec.Iter.{into_iter_items}
use Rattle.mount_parts.proofs.file_ending.next_runs.Given as goal

abbrev pub invariant-loop : goal.invariant-loop
invariant-loop l = record {
  own : l.own.items ≡ take l.counter (into_iter_items l.initial.runs);
  rest : into_iter_items l.runs ≡ drop l.counter (into_iter_items l.initial.runs);
}
