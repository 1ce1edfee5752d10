use Rattle.std.proofs.Common.{◌≡◌, ◌++◌, map, take, drop}
use Rattle.range_core.specs.LendDirects.{part_zeroed}
use Rattle.range_core.proofs.range.lend_direct.zero_run.Given as goal

abbrev pub invariant-loop-part : goal.invariant-loop-part
invariant-loop-part l = l.parts ≡ map part_zeroed (take l.part-index l.initial.parts) ++ drop l.part-index l.initial.parts
