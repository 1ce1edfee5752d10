-- A hold: a class of a file's lock, held by a pass.
use Rattle.std.specs.Prelude.{◌≡◌, ℕ, Option, Some, None, slice_get, slice_set}
use Rattle.iob_base.specs.declared.stamp.FileId.{FileId}
use Rattle.inode_lock.specs.View.{LockView}
use Rattle.mount_parts.specs.MountView.{MountView}
use Rattle.mini_fs.specs.PassView.{PassView}

-- the file, the number of the caller whose seat it is, and the seat at the file's lock
pub record HoldView : Type 0 where
  pub file : FileId
  pub caller : ℕ
  pub seat : LockView

abbrev pub hold_view : FileId → ℕ → LockView → HoldView
hold_view file caller seat = record { file = file; caller = caller; seat = seat }

-- the pass holds no class of the file
abbrev pub HoldsNone : PassView → FileId → Type 0
HoldsNone p file = (seat : LockView) × (slice_get p.locks file.0 ≡ Some (Some seat))

-- the pass with another place at a file's lock
abbrev pub with_lock : PassView → FileId → Option LockView → PassView
with_lock p file place = record p { locks = slice_set p.locks file.0 place }

-- The hold is of this pass, whose seat at the file's lock is out with it
pub record IsHoldOf (m : MountView) (p : PassView) (h : HoldView) : Type 0 where
  pub caller : h.caller ≡ p.caller
  pub lock : slice_get m.locks h.file.0 ≡ Some h.seat.lock
  pub out : slice_get p.locks h.file.0 ≡ Some None

-- The seat of the pass at the file's lock left with the hold, which these steps made of it
pub record TakesOut (steps : LockView → LockView → Type 0) (p : PassView) (file : FileId) (q : PassView) (h : HoldView) : Type 0 where
  pub seat : LockView
  pub here : slice_get p.locks file.0 ≡ Some (Some seat)
  pub did : steps seat h.seat
  pub file_is : h.file ≡ file
  pub caller : h.caller ≡ p.caller
  pub pass_is : q ≡ with_lock p file None

-- The seat of the pass at the file's lock made these steps, and holds nothing
pub record StaysHome (steps : LockView → LockView → Type 0) (p : PassView) (file : FileId) (q : PassView) : Type 0 where
  pub seat : LockView
  pub next : LockView
  pub here : slice_get p.locks file.0 ≡ Some (Some seat)
  pub did : steps seat next
  pub pass_is : q ≡ with_lock p file (Some next)

-- The seat of a hold came back to its file, after these steps
pub record BringsBack (steps : LockView → LockView → Type 0) (p : PassView) (h : HoldView) (q : PassView) : Type 0 where
  pub next : LockView
  pub did : steps h.seat next
  pub pass_is : q ≡ with_lock p h.file (Some next)
