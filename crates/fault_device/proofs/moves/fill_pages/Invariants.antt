use Rattle.std.proofs.Common.{◌≡◌, ◌++◌, map, take, drop}
use Rattle.fault_device.specs.Transfer.{block_read}
use Rattle.fault_device.proofs.moves.fill_pages.Given as goal

abbrev pub invariant-loop-part : goal.invariant-loop-part
invariant-loop-part l = l.parts ≡ map block_read (take l.part-index l.initial.parts) ++ drop l.part-index l.initial.parts
