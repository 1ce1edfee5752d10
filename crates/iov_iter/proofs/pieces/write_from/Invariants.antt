use Rattle.std.proofs.Common.{◌≡◌, ◌+◌, ◌-◌, ◌≤◌, length, take}
use Rattle.iov_iter.specs.IovView.{put_at, sizes}
use Rattle.iov_iter.specs.Slots.{joined, places}
use Rattle.iov_iter.specs.Spots.{Stands, byte_of}
use Rattle.iov_iter.proofs.pieces.write_from.Given as goal

abbrev pub invariant-loop-done : goal.invariant-loop-done
invariant-loop-done l = record {
  within : l.done ≤ length l.from;
  bytes : joined l.slots.items ≡ put_at (byte_of (sizes (places l.initial.slots.items)) l.initial.spot) (take l.done l.from) (joined l.initial.slots.items);
  same : places l.slots.items ≡ places l.initial.slots.items;
  stands : Stands (sizes (places l.initial.slots.items)) l.spot;
  byte : byte_of (sizes (places l.initial.slots.items)) l.spot ≡ byte_of (sizes (places l.initial.slots.items)) l.initial.spot + l.done;
}

abbrev pub decreases-loop-done : goal.decreases-loop-done
decreases-loop-done l = length l.from - l.done
