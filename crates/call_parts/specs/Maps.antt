-- What a call does to map the next part of its range, and to end a mapping.
use Rattle.std.specs.Prelude.{◌≡◌, ℕ, Bool, true, false, All, Some, None, List}
use Rattle.iob_base.specs.declared.answer.Fault.{Fault}
use Rattle.iob_base.specs.declared.answer.Fault.TheVariants.{NoMemory, NoSpace, Worn}
use Rattle.iob_base.specs.declared.stamp.FileId.{FileId}
use Rattle.fault_device.specs.LaneView.{LaneView}
use Rattle.iomap_core.specs.declared.mapping.Iomap.{Iomap}
use Rattle.iomap_core.specs.declared.ops.BeginFault.{BeginFault}
use Rattle.iomap_core.specs.declared.ops.BeginFault.TheVariants as begin
use Rattle.range_core.specs.Kinds.{is_hole}
use Rattle.range_core.specs.declared.entry.Event.{Event}
use Rattle.range_core.specs.declared.entry.Event.TheVariants.{Reserve, Sample as Look, Unreserve}
use Rattle.mount_parts.specs.MountView.{MountView, stripe_at}
use Rattle.mini_fs.specs.Acts.{Act, own_entries}
use Rattle.mini_fs.specs.CallActs.{loans_in}
use Rattle.mini_fs.specs.Mappings.{IsGivenAt, IsOpen, TellsFrom, leaves_promises}
use Rattle.mini_fs.specs.PassView.{PassView}
use Rattle.mini_fs.specs.Turns.{block_at}
use Rattle.mini_fs.specs.declared.begun.Begun.{Begun}
use Rattle.call_parts.specs.Causes.{IsCaused}
use Rattle.call_parts.specs.Promises.{Promised, PromisedNone, TookBack}
use Rattle.call_parts.specs.Steps.{Steps}

-- the events that map a range, with those that promise space to it and take promises back where it is to be written
abbrev pub maps : Bool → Event → Bool
maps writes (Look block most) = true
maps writes (Reserve seen blocks) = writes
maps writes (Unreserve block blocks) = writes
maps writes _ = false

-- how a call tells why no mapping was begun. That a block is not mapped hinders only a begin for an overwrite, which no call through the cache makes
abbrev pub mapping_fault : BeginFault → Fault
mapping_fault (begin.Worn cookie) = Worn cookie
mapping_fault (begin.NoSpace wanted found) = NoSpace wanted found
mapping_fault _ = NoMemory

-- A mapping was begun at a position of a file, whatever lane the call has: it is noted in the pass, it tells of a sample that the pass was given at the stripe of the position's block, a mapping that is to be written is no hole, and space was promised only to the blocks of a mapping that is new
pub record Maps (m : MountView) (file : FileId) (pos : ℕ) (writes : Bool) (p q : PassView) (iomap : Iomap) : Type 0 where
  pub acts : List Act
  pub steps : (lane : LaneView) → Steps m file (maps writes) lane lane p q acts
  pub loans : loans_in acts ≡ 0
  pub begun : Begun
  pub noted : q.begun ≡ Some begun
  pub iomap_is : begun.iomap ≡ iomap
  pub unended : IsOpen m q iomap
  pub tells : TellsFrom m file (block_at m pos) begun
  pub given : IsGivenAt q (stripe_at m file (block_at m pos)) begun.sample
  pub promised : iomap.flags.new ≡ true → writes ≡ true
  pub space : writes ≡ true → is_hole begun.sample.extent.kind ≡ false
  pub promises : Promised iomap.flags.new begun.sample (own_entries acts)

-- No mapping was begun, for this fault of one of the turns, and no space was promised. Only one that is to be written is refused
pub record MapsNone (m : MountView) (file : FileId) (writes : Bool) (p q : PassView) (fault : Fault) : Type 0 where
  pub acts : List Act
  pub steps : (lane : LaneView) → Steps m file (maps writes) lane lane p q acts
  pub loans : loans_in acts ≡ 0
  pub asked : writes ≡ true
  pub same : q.begun ≡ p.begun
  pub cause : IsCaused m (own_entries acts) fault
  pub unpromised : All PromisedNone (own_entries acts)

-- A mapping was ended, whatever lane the call has, and the pass has none begun
pub record EndsMapping (m : MountView) (file : FileId) (new : Bool) (p q : PassView) : Type 0 where
  pub acts : List Act
  pub steps : (lane : LaneView) → Steps m file (maps new) lane lane p q acts
  pub loans : loans_in acts ≡ 0
  pub none : q.begun ≡ None

-- A mapping of which so many bytes were written was ended: promises that its begin made and that may be left were taken back from all its blocks, and else nothing was done
pub record GivesBack (m : MountView) (file : FileId) (iomap : Iomap) (written : ℕ) (p q : PassView) : Type 0 where
  pub ends : EndsMapping m file iomap.flags.new p q
  pub begun : Begun
  pub was : p.begun ≡ Some begun
  pub back : TookBack (leaves_promises iomap written) begun.sample.extent (own_entries ends.acts)
