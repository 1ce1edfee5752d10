-- What a read through the page cache does, and each part of it.
use Rattle.std.specs.Prelude.{◌≡◌, ◌⊎◌, ℕ, ◌+◌, ◌-◌, ◌^◌, ◌/◌, ◌%◌, ◌<◌, ◌≤◌, min, Bool, true, false, Option, Some, None, IfSome, IsTrue, List, [], ◌∷◌, length}
use Rattle.iob_base.specs.declared.answer.Fault.{Fault}
use Rattle.iob_base.specs.declared.answer.Fault.TheVariants.{Eio, NoMemory}
use Rattle.iob_base.specs.declared.stamp.FileId.{FileId}
use Rattle.iob_base.specs.declared.stamp.Tag.{Tag}
use Rattle.io_model.specs.Parts.{blocks_met, span}
use Rattle.iov_iter.specs.IovView.{IovView, written_on}
use Rattle.fault_device.specs.LaneView.{LaneView}
use Rattle.range_core.specs.EntryStamps.{stamps_in}
use Rattle.range_core.specs.Stamps.{done_by}
use Rattle.range_core.specs.declared.entry.Entry.{Entry}
use Rattle.range_core.specs.declared.entry.Event.{Event}
use Rattle.range_core.specs.declared.entry.Event.TheVariants.{Fetch, FillBack, LendRead, Sample}
use Rattle.range_core.specs.declared.entry.Outcome.{Outcome}
use Rattle.range_core.specs.declared.entry.Outcome.TheVariants.{Finished}
use Rattle.iomap_core.specs.IterView.{IterView}
use Rattle.iomap_core.specs.Mappings.{IsBegun}
use Rattle.iomap_core.specs.declared.mapping.Iomap.{Iomap}
use Rattle.mount_parts.specs.MountView.{MountView}
use Rattle.mini_fs.specs.Acts.{Act, own_entries}
use Rattle.mini_fs.specs.CallActs.{is_tag, loans_in}
use Rattle.mini_fs.specs.Mappings.{file_end}
use Rattle.mini_fs.specs.PassView.{PassView}
use Rattle.call_parts.specs.Budgets.{LendsFew}
use Rattle.call_parts.specs.Causes.{IsCaused}
use Rattle.call_parts.specs.Parts.{stamps_over}
use Rattle.call_parts.specs.Reads.{bytes_read}
use Rattle.call_parts.specs.Steps.{Steps}
use Rattle.call_parts.specs.declared.progress.Progress.{Progress}

-- the events of a read through the page cache
abbrev pub may_read : Tag → Event → Bool
may_read tag (Sample block most) = true
may_read tag (Fetch by from to) = is_tag by tag
may_read tag (LendRead block most) = true
may_read tag (FillBack ticket block blocks done) = true
may_read tag _ = false

-- the faults that stop a read through the page cache: a device error, and want of memory
abbrev pub stops_read : Fault → Bool
stops_read (Eio lane before after) = true
stops_read NoMemory = true
stops_read _ = false

-- a call came so far
abbrev pub progress : ℕ → ℕ → Option Fault → Progress
progress at bios fault = record { at = at; bios = bios; fault = fault }

-- a call that was to do bytes from one place up to another ends at a place: at the end of them, or, with a fault, before it, where it began or where a block ends
abbrev pub EndsAt : ℕ → ℕ → ℕ → ℕ → Option Fault → Type 0
EndsAt size from to at None = at ≡ to
EndsAt size from to at (Some fault) = (at < to) × ((at ≡ from) ⊎ (at % size ≡ 0))

-- the same of what it came to
abbrev pub StopsAt : ℕ → ℕ → ℕ → Progress → Type 0
StopsAt size from to came = EndsAt size from to came.at came.fault

-- an entry that read bytes of a file read those from a place on, and where they end the rest holds. Of any other entry the rest holds at the place
abbrev pub ReadsNext : ℕ → (ℕ → Type 0) → Event → Outcome → Type 0
ReadsNext from Rest (Fetch by low high) Finished = (low ≡ from) × Rest high
ReadsNext from Rest event outcome = Rest from

-- the bytes that entries read follow on one another, from one place of a file up to another
abbrev pub ReadOn : ℕ → ℕ → List Entry → Type 0
ReadOn from to [] = from ≡ to
ReadOn from to (e ∷ entries) = ReadsNext from (λ at. ReadOn at to entries) e.event e.outcome

-- The bytes of a file from one place on, up to the one that was come to, were read in order into an iov as the histories leave them, each block with bytes that were read is stamped once, and nothing else is. A fault was met on the way
pub record HasReadFrom (m : MountView) (file : FileId) (by : Tag) (from : ℕ) (before after : LaneView) (p q : PassView) (iov later : IovView) (came : Progress) : Type 0 where
  pub acts : List Act
  pub steps : Steps m file (may_read by) before after p q acts
  pub begins : from ≤ came.at
  pub bytes : later ≡ written_on (bytes_read m p [] acts) iov
  pub long : length (bytes_read m p [] acts) ≡ came.at - from
  pub parts : ReadOn from came.at (own_entries acts)
  pub stamps : stamps_in m.geometry.block_size (own_entries acts) ≡ stamps_over m.geometry.block_size (span from came.at) (done_by by)
  pub cause : IfSome came.fault (IsCaused m (own_entries acts))
  pub kind : IfSome came.fault (λ fault. IsTrue (stops_read fault))
  pub bios : came.bios ≡ min (loans_in acts) (2 ^ 64 - 1)

-- only blocks with bytes from one place of a file up to another are lent to be read, and once a read failed only those before it
abbrev pub ReadsFew : MountView → FileId → ℕ → ℕ → Option Fault → List Act → Type 0
ReadsFew m file from to fault acts = LendsFew m file (λ b. true) (from / m.geometry.block_size) (blocks_met m.geometry.block_size (span from to)) fault acts

-- The bytes of a file from one place on, up to another or to where a fault stopped it, were so read
pub record HasReadUpTo (m : MountView) (file : FileId) (by : Tag) (from to : ℕ) (before after : LaneView) (p q : PassView) (iov later : IovView) (came : Progress) : Type 0 where
  pub read : HasReadFrom m file by from before after p q iov later came
  pub stops : StopsAt m.geometry.block_size from to came
  pub few : ReadsFew m file from to came.fault read.acts

-- A mapping of a file covers a position, ends with a block of the file, and its begin gave no space
pub record IsMappedAt (m : MountView) (file : FileId) (pos : ℕ) (iomap : Iomap) : Type 0 where
  pub begun : IsBegun file pos iomap
  pub within : iomap.offset + iomap.length ≤ file_end m file
  pub whole : (iomap.offset + iomap.length) % m.geometry.block_size ≡ 0
  pub old : iomap.flags.new ≡ false

-- Of a range that a call goes over by mappings the bytes before a place were done, and no mapping is unfinished
pub record IsDoneTo (before after : IterView) (at : ℕ) : Type 0 where
  pub file : after.file ≡ before.file
  pub pos : after.pos ≡ at
  pub end : after.pos + after.left ≡ before.pos + before.left
  pub finished : after.unfinished ≡ None

-- The bytes from one place on, up to the end of a mapping of them, or to another place if that comes first, were so read
pub record ReadsMapping (m : MountView) (file : FileId) (by : Tag) (from to : ℕ) (before after : LaneView) (p q : PassView) (iov later : IovView) (came : Progress) : Type 0 where
  pub end : ℕ
  pub some : from < end
  pub within : end ≤ to
  pub whole : end < to → end % m.geometry.block_size ≡ 0
  pub read : HasReadUpTo m file by from end before after p q iov later came
