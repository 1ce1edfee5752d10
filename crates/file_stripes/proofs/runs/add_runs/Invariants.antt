use Rattle.std.proofs.Common.{◌≡◌, drop}
use Rattle.file_stripes.specs.Runs.{FollowsOn, with_runs}
use Rattle.file_stripes.proofs.runs.add_runs.Given as goal

abbrev pub invariant-loop-i : goal.invariant-loop-i
invariant-loop-i l = FollowsOn l.extents.items (drop l.i l.runs) × (with_runs l.extents.items (drop l.i l.runs) ≡ with_runs l.initial.extents.items l.runs)
