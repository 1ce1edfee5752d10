use Rattle.std.proofs.Common.{◌≡◌, ◌++◌, map, take, drop}
use Rattle.fault_device.specs.Transfer.{block_written}
use Rattle.fault_device.proofs.moves.fill_blocks.Given as goal

abbrev pub invariant-loop-part : goal.invariant-loop-part
invariant-loop-part l = l.parts ≡ map block_written (take l.part-index l.initial.parts) ++ drop l.part-index l.initial.parts
