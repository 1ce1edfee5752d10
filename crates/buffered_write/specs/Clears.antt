-- What a call does that makes zeros of a range of a file.
use Rattle.std.specs.Prelude.{◌≡◌, ◌⊎◌, ℕ, ◌+◌, ◌-◌, ◌*◌, ◌/◌, ◌%◌, ◌<◌, ◌≤◌, ◌==◌, nat_le, min, Bool, false, if◌then◌else◌, Option, None, Some, Result, Ok, Err, All, replicate}
use Rattle.iob_base.specs.declared.answer.Fault.{Fault}
use Rattle.iob_base.specs.declared.answer.Fault.TheVariants.{NoMemory, Worn}
use Rattle.iob_base.specs.declared.stamp.FileId.{FileId}
use Rattle.iob_base.specs.declared.stamp.Mode.{Mode}
use Rattle.iob_base.specs.declared.stamp.Tag.{Tag}
use Rattle.fault_device.specs.LaneView.{LaneView}
use Rattle.range_core.specs.declared.entry.Entry.{Entry}
use Rattle.range_core.specs.declared.entry.Event.{Event}
use Rattle.range_core.specs.declared.entry.Event.TheVariants.{DaxZero, StoreZeros, Wipe}
use Rattle.range_core.specs.declared.entry.Outcome.{Outcome}
use Rattle.range_core.specs.declared.entry.Outcome.TheVariants.{Finished}
use Rattle.range_core.specs.declared.fault.EventFault.{EventFault}
use Rattle.range_core.specs.declared.fault.EventFault.TheVariants as refusal
use Rattle.mount_parts.specs.MountView.{MountView, file_at}
use Rattle.mini_fs.specs.Acts.{own_entries}
use Rattle.mini_fs.specs.CallActs.{is_tag}
use Rattle.mini_fs.specs.PassView.{PassView}
use Rattle.call_parts.specs.declared.progress.Progress.{Progress}
use Rattle.buffered_write.specs.Lays.{HasLaid, IsDeviceOrMemory}
use Rattle.buffered_write.specs.PartReads.{ReadsInPart}
use Rattle.buffered_write.specs.Pwrites.{progress}
use Rattle.buffered_write.specs.Zeroes.{may_zero}

-- the events of a clearing in a file of some mode: blocks are wiped, and zeros are laid over bytes
abbrev pub may_clear : Mode → Tag → Event → Bool
may_clear mode tag (Wipe by block blocks) = is_tag by tag
may_clear mode tag event = may_zero mode tag event

-- the faults that stop a clearing: a device error, want of memory, and a cookie that is used up
abbrev pub StopsClear : Fault → Type 0
StopsClear (Worn cookie) = Unit {0}
StopsClear fault = IsDeviceOrMemory fault

module _ (size from to : ℕ) where
  -- a range covers each block of a run whole
  abbrev pub CoversWhole : ℕ → ℕ → Type 0
  CoversWhole block blocks = (from ≤ block * size) × ((block + blocks) * size ≤ to)

  -- bytes of a range lie in its first block or in its last, and it covers that block in part
  abbrev pub LieInPart : ℕ → ℕ → Type 0
  LieInPart low high = ((from % size ≡ 0 → ⊥) × (high ≤ (from / size + 1) * size)) ⊎ ((to % size ≡ 0 → ⊥) × (to / size * size ≤ low))

  -- what a clearing of a range does to blocks: it wipes those that the range covers whole, and lays zeros over bytes of those that it covers in part
  abbrev pub ClearsOnly : Event → Outcome → Type 0
  ClearsOnly (Wipe by block blocks) outcome = CoversWhole block blocks
  ClearsOnly (StoreZeros by seen low high) Finished = LieInPart low high
  ClearsOnly (DaxZero by seen low high) Finished = LieInPart low high
  ClearsOnly event outcome = Unit {0}

  abbrev pub IsOfClearing : Entry → Type 0
  IsOfClearing e = ClearsOnly e.event e.outcome

-- Zeros were laid over a range of a file, from its begin up to the place that the clearing reached. The blocks that the range covers whole were wiped, and no others. Only blocks that it covers in part were read first
pub record Clears (m : MountView) (file : FileId) (by : Tag) (from to : ℕ) (before after : LaneView) (p q : PassView) (came : Progress) : Type 0 where
  pub laid : HasLaid m (may_clear (file_at m file).mode by) file by from (replicate (to - from) 0) before after p q came
  pub parts : All (IsOfClearing m.geometry.block_size from to) (own_entries laid.acts)
  pub few : ReadsInPart m file from to came.fault laid.acts

-- how a clearing tells why a turn wiped nothing. A wipe is refused for nothing else, but while a block of it is away
abbrev pub wipe_fault : EventFault → Fault
wipe_fault (refusal.Worn cookie) = Worn cookie
wipe_fault _ = NoMemory

-- A run of blocks of a file lies in one stripe
pub record IsRunOf (m : MountView) (file : FileId) (block blocks : ℕ) : Type 0 where
  pub some : 0 < blocks
  pub within : block + blocks ≤ (file_at m file).blocks
  pub in_stripe : block % 64 + blocks ≤ 64

-- how far a wipe of a run of blocks came: behind them, or to their begin where it was stopped
abbrev pub wiped_to : ℕ → ℕ → ℕ → Option Fault → Progress
wiped_to size block blocks None = progress ((block + blocks) * size) 0 None
wiped_to size block blocks (Some fault) = progress (block * size) 0 (Some fault)

module _ (m : MountView) (file : FileId) (by : Tag) (block blocks : ℕ) (p q : PassView) where
  -- a run of blocks was wiped, or not yet, whatever lane the call has
  abbrev pub WipesTo : Progress → Type 0
  WipesTo came = (lane : LaneView) → Clears m file by (block * m.geometry.block_size) ((block + blocks) * m.geometry.block_size) lane lane p q came

  -- what one turn came to that was to wipe the run: all of it, or nothing, whether that stops the call or not
  abbrev pub WipedOnce : Result ℕ EventFault → Type 0
  WipedOnce (Ok count) = WipesTo (wiped_to m.geometry.block_size block blocks None)
  WipedOnce (Err refused) = WipesTo (progress (block * m.geometry.block_size) 0 None) × WipesTo (wiped_to m.geometry.block_size block blocks (Some (wipe_fault refused)))

module _ (size to at : ℕ) where
  -- a block begins at a place, and a range that ends at `to` covers it whole from there on
  abbrev pub covers_block : Bool
  covers_block = if at % size == 0 then nat_le size (to - at) else false

  -- how many blocks of one stripe the range covers whole from there on
  abbrev pub whole_blocks : ℕ
  whole_blocks = min ((to - at) / size) (64 - at / size % 64)

  -- where the block of the place ends, or the range in it
  abbrev pub block_end : ℕ
  block_end = min to ((at / size + 1) * size)

  -- where the part of the range ends that begins there: behind the whole blocks of one stripe, or with its block
  abbrev pub clear_end : ℕ
  clear_end = if covers_block then at + whole_blocks * size else block_end
