-- What a call lays over the bytes of a file through its page cache.
use Rattle.std.specs.Prelude.{◌≡◌, ◌⊎◌, ℕ, ◌+◌, ◌-◌, ◌*◌, ◌^◌, ◌%◌, ◌<◌, ◌≤◌, min, Bool, true, false, Option, Some, None, IfSome, List, [], ◌∷◌, ◌++◌, length, replicate, take}
use Rattle.iob_base.specs.declared.answer.Fault.{Fault}
use Rattle.iob_base.specs.declared.answer.Fault.TheVariants.{Eio, NoMemory}
use Rattle.iob_base.specs.declared.stamp.FileId.{FileId}
use Rattle.iob_base.specs.declared.stamp.Mode.TheVariants.{Cached, Dax}
use Rattle.iob_base.specs.declared.stamp.Tag.{Tag}
use Rattle.io_model.specs.Parts.{span}
use Rattle.fault_device.specs.LaneView.{LaneView}
use Rattle.range_core.specs.EntryStamps.{stamps_in}
use Rattle.range_core.specs.Kinds.{is_hole}
use Rattle.range_core.specs.Stamps.{done_by}
use Rattle.range_core.specs.declared.entry.Entry.{Entry}
use Rattle.range_core.specs.declared.entry.Event.{Event}
use Rattle.range_core.specs.declared.entry.Event.TheVariants.{DaxZero, Store, StoreZeros, Wipe}
use Rattle.range_core.specs.declared.entry.Outcome.{Outcome}
use Rattle.range_core.specs.declared.entry.Outcome.TheVariants.{Counted, Finished}
use Rattle.range_core.specs.declared.sample.Sample.{Sample}
use Rattle.mount_parts.specs.MountView.{HasFile, MountView, file_at, stripe_at}
use Rattle.mini_fs.specs.Acts.{Act, own_entries}
use Rattle.mini_fs.specs.CallActs.{loans_in}
use Rattle.mini_fs.specs.Calls.{HasShares}
use Rattle.mini_fs.specs.Mappings.{IsGivenAt, LiesInStripe}
use Rattle.mini_fs.specs.PassView.{IsPassOf, PassView}
use Rattle.call_parts.specs.Budgets.{AreSound}
use Rattle.call_parts.specs.Causes.{IsCaused}
use Rattle.call_parts.specs.Parts.{stamps_over}
use Rattle.call_parts.specs.Steps.{Steps}
use Rattle.call_parts.specs.declared.progress.Progress.{Progress}

-- bytes that lie over a file from a place on
pub record Laid : Type 0 where
  pub from : ℕ
  pub bytes : List ℕ

abbrev pub laid_at : ℕ → List ℕ → Laid
laid_at from bytes = record { from = from; bytes = bytes }

-- what an event laid over the file that came about: the bytes of a store, and zeros where bytes were set to them or blocks became holes
abbrev pub laid_by : ℕ → Event → Outcome → List Laid
laid_by size (Store by seen from to bytes) Finished = laid_at from bytes ∷ []
laid_by size (StoreZeros by seen from to) Finished = laid_at from (replicate (to - from) 0) ∷ []
laid_by size (Wipe by block n) (Counted changed) = laid_at (block * size) (replicate (n * size) 0) ∷ []
laid_by size (DaxZero by seen from to) Finished = laid_at from (replicate (to - from) 0) ∷ []
laid_by size _ _ = []

-- what entries laid over the file, in order
abbrev pub laid_in : ℕ → List Entry → List Laid
laid_in size [] = []
laid_in size (e ∷ entries) = laid_by size e.event e.outcome ++ laid_in size entries

-- all bytes that were laid, in order
abbrev pub bytes_laid : List Laid → List ℕ
bytes_laid [] = []
bytes_laid (x ∷ laids) = x.bytes ++ bytes_laid laids

-- the first lies from this place on, and each other one where the one before it ends
abbrev pub FollowOn : ℕ → List Laid → Type 0
FollowOn at [] = Unit {0}
FollowOn at (x ∷ laids) = (x.from ≡ at) × FollowOn (at + length x.bytes) laids

-- They lie one after another from a place of the file up to another, and have these bytes together
pub record LieOn (from to : ℕ) (bytes : List ℕ) (laids : List Laid) : Type 0 where
  pub order : FollowOn from laids
  pub together : bytes_laid laids ≡ bytes
  pub reach : from + length bytes ≡ to

-- these acts lent no block of the file where its bytes lie in their sectors alone
abbrev pub IsDry : MountView → FileId → List Act → Type 0
IsDry m file acts = (file_at m file).mode ≡ Dax → loans_in acts ≡ 0

-- The first of these bytes lie over a file from a place on up to the place that a call reached, in order, each block that has some of them is stamped once, and nothing else is laid or stamped. A fault that stopped it there has its cause among the call's own entries, and each loan counts as a bio
pub record HasLaid (m : MountView) (may : Event → Bool) (file : FileId) (by : Tag) (from : ℕ) (bytes : List ℕ) (before after : LaneView) (p q : PassView) (came : Progress) : Type 0 where
  pub acts : List Act
  pub steps : Steps m file may before after p q acts
  pub begins : from ≤ came.at
  pub laid : LieOn from came.at (take (came.at - from) bytes) (laid_in m.geometry.block_size (own_entries acts))
  pub stamps : stamps_in m.geometry.block_size (own_entries acts) ≡ stamps_over m.geometry.block_size (span from came.at) (done_by by)
  pub cause : IfSome came.fault (IsCaused m (own_entries acts))
  pub bios : came.bios ≡ min (loans_in acts) (2 ^ 64 - 1)
  pub dry : IsDry m file acts

-- a range is cut at a place where it begins or ends, or where a block ends
abbrev pub Meet : ℕ → ℕ → ℕ → ℕ → Type 0
Meet size from at to = (at ≡ from) ⊎ (at ≡ to) ⊎ (at % size ≡ 0)

-- a range is left before its end, where it was begun or where a block ends
abbrev pub IsLeftAt : ℕ → ℕ → ℕ → ℕ → Type 0
IsLeftAt size from to at = (at < to) × ((at ≡ from) ⊎ (at % size ≡ 0))

-- a call that did so many bytes of a range did none, or came to where a block begins
abbrev pub IsLeftAfter : ℕ → ℕ → ℕ → Type 0
IsLeftAfter size from count = (count ≡ 0) ⊎ ((from + count) % size ≡ 0)

-- where work on a mapping ends that may be found stale: with its range, or before it for a fault or since the mapping is stale
abbrev pub EndsAt : ℕ → ℕ → ℕ → ℕ → Option Fault → Bool → Type 0
EndsAt size from to at (Some fault) stale = IsLeftAt size from to at × (stale ≡ false)
EndsAt size from to at None true = IsLeftAt size from to at
EndsAt size from to at None false = at ≡ to

-- where work on one mapping of a range ends: where the range may be cut, or before its end for a fault
abbrev pub GoesTo : ℕ → ℕ → ℕ → ℕ → Option Fault → Type 0
GoesTo size from to at (Some fault) = IsLeftAt size from to at
GoesTo size from to at None = Meet size from at to

-- A pass of the mount goes through the page cache of a file for the caller of a tag, with enough of a share at its stripes to read blocks into it
pub record GoesOn (m : MountView) (file : FileId) (by : Tag) (p : PassView) : Type 0 where
  pub of : IsPassOf m p
  pub caller : by.caller ≡ p.caller
  pub exists : HasFile m file
  pub cached : (file_at m file).mode ≡ Cached
  pub shares : HasShares m file 2 p

-- The same of a file of any mode: its bytes go through the page cache, or straight to the device where it has none
pub record GoesAt (m : MountView) (file : FileId) (by : Tag) (p : PassView) : Type 0 where
  pub of : IsPassOf m p
  pub caller : by.caller ≡ p.caller
  pub exists : HasFile m file
  pub shares : HasShares m file 2 p

-- Bytes from one place of a file up to another lie in the extent of a sample that has space for them and was given to the pass
pub record CanLay (m : MountView) (file : FileId) (seen : Sample) (from to : ℕ) (p : PassView) : Type 0 where
  pub some : from < to
  pub low : seen.extent.block * m.geometry.block_size ≤ from
  pub high : to ≤ (seen.extent.block + seen.extent.length) * m.geometry.block_size
  pub lies : LiesInStripe m file seen.extent
  pub space : is_hole seen.extent.kind ≡ false
  pub given : IsGivenAt p (stripe_at m file seen.extent.block) seen

-- Nothing is laid and no block is stamped. A fault has its cause among the step's own entries, and each loan counts as a bio. Without one no read came back failed
pub record LaysNothing (m : MountView) (may : Event → Bool) (file : FileId) (before after : LaneView) (p q : PassView) (bios : ℕ) (fault : Option Fault) : Type 0 where
  pub acts : List Act
  pub steps : Steps m file may before after p q acts
  pub laid : laid_in m.geometry.block_size (own_entries acts) ≡ []
  pub stamps : stamps_in m.geometry.block_size (own_entries acts) ≡ []
  pub cause : IfSome fault (IsCaused m (own_entries acts))
  pub sent : bios ≡ min (loans_in acts) (2 ^ 64 - 1)
  pub sound : bios ≡ 0 → AreSound (own_entries acts)
  pub dry : IsDry m file acts

-- Bytes from one place of a file up to another lie in the extent of a sample that was given to the pass
pub record LieUnder (m : MountView) (file : FileId) (seen : Sample) (from to : ℕ) (p : PassView) : Type 0 where
  pub some : from < to
  pub low : seen.extent.block * m.geometry.block_size ≤ from
  pub high : to ≤ (seen.extent.block + seen.extent.length) * m.geometry.block_size
  pub lies : LiesInStripe m file seen.extent
  pub given : IsGivenAt p (stripe_at m file seen.extent.block) seen

-- the fault is a device error, or want of memory
abbrev pub IsDeviceOrMemory : Fault → Type 0
IsDeviceOrMemory (Eio lane before after) = Unit {0}
IsDeviceOrMemory NoMemory = Unit {0}
IsDeviceOrMemory _ = ⊥
