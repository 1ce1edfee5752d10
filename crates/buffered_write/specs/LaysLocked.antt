-- What a call did that laid bytes over a range of a file under its exclusive class.
use Rattle.std.specs.Prelude.{◌≡◌, ℕ, ◌-◌, ◌^◌, ◌≤◌, min, Bool, true, false, IfSome, List, [], ◌∷◌, ◌++◌, All, take}
use Rattle.iob_base.specs.declared.stamp.FileId.{FileId}
use Rattle.iob_base.specs.declared.stamp.Tag.{Tag}
use Rattle.io_model.specs.Parts.{span}
use Rattle.fault_device.specs.LaneView.{LaneView}
use Rattle.inode_lock.specs.View.{LockView}
use Rattle.inode_lock.specs.declared.word.Class.TheVariants.{Exclusive}
use Rattle.range_core.specs.EntryStamps.{stamps_in}
use Rattle.range_core.specs.Stamps.{done_by}
use Rattle.range_core.specs.declared.entry.Event.{Event}
use Rattle.mount_parts.specs.MountView.{MountView}
use Rattle.mini_fs.specs.Acts.{Act, bios_in, own_entries}
use Rattle.mini_fs.specs.Acts.Act.{Leave, Take}
use Rattle.mini_fs.specs.CallActs.{CallActs, loans_in, lock_acts, size_acts}
use Rattle.mini_fs.specs.PassView.{IsPassOf, PassView}
use Rattle.mini_fs.specs.Tickets.{KeepsTickets}
use Rattle.call_parts.specs.Causes.{IsCaused}
use Rattle.call_parts.specs.Parts.{stamps_over}
use Rattle.call_parts.specs.Steps.{IsPlaced, ServedBy, dones_in}
use Rattle.call_parts.specs.declared.progress.Progress.{Progress}
use Rattle.buffered_write.specs.Lays.{IsDry, LieOn, laid_in}
use Rattle.buffered_write.specs.Allocates.{WorksExclusive}
use Rattle.buffered_write.specs.PartReads.{ReadsInPart}

-- The first of these bytes were laid over a file from a place on, up to where the call came, which was to come to another, each block that has some of them was stamped once, and nothing else was laid or stamped. Only blocks that the range covers in part were read first. `Also` holds of the acts, which may be at the file's lock and size too
pub record LaidWith (Also : List Act → Type 0) (m : MountView) (may : Event → Bool) (file : FileId) (by : Tag) (from to : ℕ) (bytes : List ℕ) (before after : LaneView) (p q : PassView) (came : Progress) : Type 0 where
  pub acts : List Act
  pub also : Also acts
  pub of : IsPassOf m q
  pub did : CallActs m file may p q acts
  pub last : q.last ≡ p.last
  pub callers : All (λ e. e.caller ≡ p.caller) (own_entries acts)
  pub placed : All (IsPlaced m file) acts
  pub run : bios_in acts ≡ loans_in acts
  pub lane : ServedBy before after (dones_in (own_entries acts))
  pub tickets : KeepsTickets p q
  pub begins : from ≤ came.at
  pub laid : LieOn from came.at (take (came.at - from) bytes) (laid_in m.geometry.block_size (own_entries acts))
  pub stamps : stamps_in m.geometry.block_size (own_entries acts) ≡ stamps_over m.geometry.block_size (span from came.at) (done_by by)
  pub cause : IfSome came.fault (IsCaused m (own_entries acts))
  pub bios : came.bios ≡ min (loans_in acts) (2 ^ 64 - 1)
  pub few : ReadsInPart m file from to came.fault acts
  pub dry : IsDry m file acts

-- The acts took the exclusive class of the file first and left it last, and met no lock between
pub record HeldExclusive (file : FileId) (acts : List Act) : Type 0 where
  pub home : LockView
  pub held : LockView
  pub next : LockView
  pub work : List Act
  pub acts_are : acts ≡ Take file Exclusive home held ∷ (work ++ Leave file Exclusive held next ∷ [])
  pub locks : lock_acts acts ≡ Take file Exclusive home held ∷ Leave file Exclusive held next ∷ []

-- the same of acts that met no size
abbrev pub HeldOnly : FileId → List Act → Type 0
HeldOnly file acts = HeldExclusive file acts × (size_acts acts ≡ [])

-- the class that a call holds around all its work: none where it has nothing to do, and then it makes no turn
abbrev pub HoldsClass : Bool → FileId → ℕ → List Act → Type 0
HoldsClass true file call acts = WorksExclusive file call acts
HoldsClass false file call acts = (lock_acts acts ≡ []) × (own_entries acts ≡ [])
