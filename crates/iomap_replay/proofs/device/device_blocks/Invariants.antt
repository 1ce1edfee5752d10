use Rattle.std.proofs.Common.{◌≡◌, ◌≤◌, length, drop, replicate}
use Rattle.iomap_replay.specs.Devices.{blocks_with, content_given}
use Rattle.iomap_replay.proofs.device.device_blocks.Given as goal

abbrev pub invariant-loop-left : goal.invariant-loop-left
invariant-loop-left l =
    (l.left ≤ length l.given)
    × (l.all.items ≡ blocks_with (content_given (drop l.left l.given) (replicate l.fn.device.block_size l.fn.device.fill)) 0 l.fn.device.blocks)

abbrev pub decreases-loop-left : goal.decreases-loop-left
decreases-loop-left l = l.left
