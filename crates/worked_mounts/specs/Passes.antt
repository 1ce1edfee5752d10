-- Passes of other callers.
use Rattle.std.specs.Prelude.{◌≡◌, ◌^◌}
use Rattle.mount_parts.specs.MountView.{MountView}
use Rattle.mini_fs.specs.PassView.{PassView}
use Rattle.worked_mounts.specs.Alone.{IsAlone, share_of}

-- The pass stands at the mount with the share that a pass is given when it is split off
pub record IsSplitOff (m : MountView) (p : PassView) : Type 0 where
  pub alone : IsAlone m p
  pub share : share_of p ≡ 2 ^ 32
