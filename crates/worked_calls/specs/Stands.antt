-- A pass that goes from call to call at a mount of one file.
use Rattle.std.specs.Prelude.{◌≡◌, ◌≤◌, length}
use Rattle.mount_parts.specs.MountView.{MountView}
use Rattle.mini_fs.specs.PassView.{PassView}
use Rattle.worked_mounts.specs.Alone.{IsAlone, share_of}

-- The mount has one file, and the pass may go to a call there: it stands between two of its calls, and has as much of a share as a call needs
pub record IsReady (m : MountView) (p : PassView) : Type 0 where
  pub alone : IsAlone m p
  pub one : length m.files ≡ 1
  pub enough : 128 ≤ share_of p

-- From the first pass to the second calls were made, and the pass may go on, with the share that it had
pub record Stays (m : MountView) (p q : PassView) : Type 0 where
  pub ready : IsReady m q
  pub share : share_of q ≡ share_of p
