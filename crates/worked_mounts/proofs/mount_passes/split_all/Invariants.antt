use Rattle.std.proofs.Common.{◌≡◌, ◌+◌, ◌*◌, ◌^◌, All, vec_len, vec_capacity}
use Rattle.worked_mounts.specs.Alone.{IsAlone, share_of}
use Rattle.worked_mounts.specs.Passes.{IsSplitOff}
use Rattle.worked_mounts.proofs.mount_passes.split_all.Given as goal

abbrev pub invariant-loop : goal.invariant-loop
invariant-loop g l = record {
  alone : IsAlone l.mount l.pass;
  share : share_of l.pass + 2 ^ 32 * l.counter ≡ share_of l.initial.pass;
  given : All (IsSplitOff l.mount) l.all.items;
  count : vec_len l.all ≡ l.counter;
  room : vec_capacity l.all ≡ vec_capacity l.initial.all;
}
