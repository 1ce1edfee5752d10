use Rattle.std.proofs.Common.{◌≡◌, take, vec_len, vec_capacity}
use Rattle.mini_fs.specs.Splits.{kept_lock}
use Rattle.mount_parts.specs.Locks.{AreFresh}
use Rattle.mini_fs.proofs.Firsts.{on_first}
use Rattle.mini_fs.proofs.split.split_locks.Given as goal

-- the seats of the first so many locks were split
abbrev pub invariant-loop-i : goal.invariant-loop-i
invariant-loop-i l = record {
  seats : l.seats.items ≡ on_first kept_lock l.i l.initial.seats.items;
  made : AreFresh (take l.i l.mount.locks) l.made.items;
  len : vec_len l.seats ≡ vec_len l.initial.seats;
  count : vec_len l.made ≡ l.i;
  capacity : vec_capacity l.made ≡ vec_capacity l.initial.made;
}
