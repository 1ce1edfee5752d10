use Rattle.std.proofs.Common.{◌≡◌, ◌++◌, map, take, drop}
use Rattle.iob_base.specs.Parting.{bare_parts}
use Rattle.iov_iter.specs.Runs.{page_in, run_mapped, slot_out}
use Rattle.iov_iter.proofs.pages.take_run.Given as goal

abbrev pub invariant-loop-i : goal.invariant-loop-i
invariant-loop-i l = record {
  pages : l.into ≡ l.initial.into ++ bare_parts (map page_in (take l.i (drop l.first l.initial.slots.items)));
  slots : l.slots.items ≡ run_mapped slot_out l.first l.i l.initial.slots.items;
}
