use Rattle.std.proofs.Common.{◌≡◌, ◌+◌, ◌++◌, map, take, drop}
use Rattle.iob_base.specs.Parting.{pages_of, without_page}
use Rattle.iov_iter.specs.Runs.{FitIn, slots_put}
use Rattle.iov_iter.proofs.pages.put_run.Given as goal

abbrev pub invariant-loop-part : goal.invariant-loop-part
invariant-loop-part l = record {
  at : l.at ≡ l.first + l.part-index;
  fit : FitIn (drop l.at l.slots.items) (pages_of (drop l.part-index l.initial.parts));
  slots : take l.at l.slots.items ++ slots_put (drop l.at l.slots.items) (pages_of (drop l.part-index l.initial.parts)) ≡ take l.first l.initial.slots.items ++ slots_put (drop l.first l.initial.slots.items) (pages_of l.initial.parts);
  parts : l.parts ≡ map without_page (take l.part-index l.initial.parts) ++ drop l.part-index l.initial.parts;
}
