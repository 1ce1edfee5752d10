use Rattle.std.proofs.Common.{ℕ, ◌<◌, get_or}
use Rattle.fault_device.specs.declared.lane.Done.{Done}
use Rattle.bio_pages.specs.Lists.{IsApart}
use Rattle.bio_pages.proofs.settle.is_apart.Given as goal

abbrev pub invariant-loop-other : goal.invariant-loop-other
invariant-loop-other l = (k : ℕ) (d : Done) → k < l.other-index → IsApart (get_or l.dones k d) l.done
