use Rattle.std.proofs.Common.{◌≡◌, ◌+◌, ◌*◌, ◌^◌, All, vec_len}
use Rattle.worked_mounts.specs.Alone.{IsAlone, share_of}
use Rattle.worked_mounts.specs.Passes.{IsSplitOff}
use Rattle.worked_mounts.proofs.mount_passes.join_all.Given as goal

abbrev pub invariant-loop-other : goal.invariant-loop-other
invariant-loop-other g l = record {
  alone : IsAlone l.mount l.pass;
  others : All (IsSplitOff l.mount) l.others.items;
  share : share_of l.pass + 2 ^ 32 * vec_len l.others ≡ share_of l.initial.pass + 2 ^ 32 * vec_len l.initial.others;
}

abbrev pub decreases-loop-other : goal.decreases-loop-other
decreases-loop-other g l = vec_len l.others
