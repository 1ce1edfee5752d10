use Rattle.std.proofs.Common.{◌≡◌, ◌+◌, ◌-◌, ◌≤◌, ◌++◌, length, take, drop}
use Rattle.iov_iter.specs.IovView.{sizes}
use Rattle.iov_iter.specs.Slots.{joined, places}
use Rattle.iov_iter.specs.Spots.{Stands, byte_of}
use Rattle.iov_iter.proofs.pieces.read_from.Given as goal

abbrev pub invariant-loop-done : goal.invariant-loop-done
invariant-loop-done l = record {
  within : l.done ≤ length l.initial.into;
  bytes : l.into ≡ take l.done (drop (byte_of (sizes (places l.slots.items)) l.initial.spot) (joined l.slots.items)) ++ drop l.done l.initial.into;
  stands : Stands (sizes (places l.slots.items)) l.spot;
  byte : byte_of (sizes (places l.slots.items)) l.spot ≡ byte_of (sizes (places l.slots.items)) l.initial.spot + l.done;
}

abbrev pub decreases-loop-done : goal.decreases-loop-done
decreases-loop-done l = length l.initial.into - l.done
