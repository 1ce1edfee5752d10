-- What one try to read a part of a file's bytes comes to, whose cold blocks are read first.
use Rattle.std.specs.Prelude.{◌≡◌, ◌⊎◌, ℕ, ◌+◌, ◌-◌, ◌/◌, ◌^◌, ◌%◌, ◌<◌, ◌≤◌, ◌==◌, min, Some, None, List, All, if◌then◌else◌}
use Rattle.iob_base.specs.declared.answer.Fault.TheVariants as fault
use Rattle.iob_base.specs.declared.stamp.FileId.{FileId}
use Rattle.iob_base.specs.declared.stamp.Tag.{Tag}
use Rattle.io_model.specs.Parts.{blocks_met, span}
use Rattle.iov_iter.specs.IovView.{IovView}
use Rattle.fault_device.specs.LaneView.{LaneView}
use Rattle.range_core.specs.declared.entry.Entry.{Entry}
use Rattle.mount_parts.specs.MountView.{MountView}
use Rattle.mini_fs.specs.Acts.{own_entries}
use Rattle.mini_fs.specs.PassView.{PassView}
use Rattle.call_parts.specs.Budgets.{IsBehind}
use Rattle.buffered_read.specs.Preads.{HasReadFrom, ReadsFew, progress}
use Rattle.call_parts.specs.declared.cold.Fill.{Fill}
use Rattle.call_parts.specs.declared.cold.Fill.TheVariants as fill
use Rattle.call_parts.specs.declared.progress.Progress.{Progress}
use Rattle.buffered_read.specs.declared.warm.Round.{Round}
use Rattle.buffered_read.specs.declared.warm.Round.TheVariants as round
use Rattle.buffered_read.specs.declared.warm.Tried.{Tried}
use Rattle.buffered_read.specs.declared.warm.Tried.TheVariants.{Again, Read, Stopped}

-- so many bios and more of them, as far as they can be counted
abbrev pub more_bios : ℕ → ℕ → ℕ
more_bios bios more = min (bios + more) (2 ^ 64 - 1)

-- how a try at bytes from a place on is told whose first cold block begins at another and was to be read
abbrev pub told_fill : ℕ → ℕ → Fill → Tried
told_fill from start fill.Filled = Again 1
told_fill from start fill.Again = Again 0
told_fill from start (fill.Failed block done) = Stopped start 1 (fault.Eio done.lane done.before done.after)
told_fill from start fill.NoMemory = Stopped from 0 fault.NoMemory

-- what a try at the bytes from one place up to another came to
abbrev pub came_by : ℕ → ℕ → Tried → Progress
came_by from to Read = progress to 0 None
came_by from to (Again bios) = progress from bios None
came_by from to (Stopped at bios fault) = progress from bios (Some fault)

-- a try that tells that nothing can be read from a place on tells of one of its bytes: the first, or one where a block begins
abbrev pub StopsWithin : ℕ → ℕ → ℕ → Tried → Type 0
StopsWithin size from to (Stopped at bios fault) = (from ≤ at) × (at < to) × ((at ≡ from) ⊎ (at % size ≡ 0))
StopsWithin size from to _ = Unit {0}

-- where a try tells that nothing can be read from a place on, behind the one where the part begins, a read that failed began behind the blocks before it
abbrev pub FailsBehind : ℕ → ℕ → Tried → List Entry → Type 0
FailsBehind size from (Stopped at bios fault) entries = (at ≡ from → ⊥) → All (λ e. IsBehind (from / size + blocks_met size (span from at)) e.event) entries
FailsBehind size from _ entries = Unit {0}

-- A try at the bytes from one place up to another read them all or none
pub record TriesPart (m : MountView) (file : FileId) (by : Tag) (from to : ℕ) (before after : LaneView) (p q : PassView) (iov later : IovView) (tried : Tried) : Type 0 where
  pub read : HasReadFrom m file by from before after p q iov later (came_by from to tried)
  pub stops : StopsWithin m.geometry.block_size from to tried
  pub few : ReadsFew m file from to (came_by from to tried).fault read.acts
  pub behind : FailsBehind m.geometry.block_size from tried (own_entries read.acts)

-- where nothing is left to be read of a part that begins at a place, that is what it comes to
abbrev pub ends_or_goes_on : ℕ → Progress → Round
ends_or_goes_on from aim = if aim.at == from then round.Came aim else round.Again aim

-- what a part comes to after a try, where it was to come so far: it came so far, or it is to be tried again
abbrev pub after_try : ℕ → Progress → Tried → Round
after_try from aim Read = round.Came aim
after_try from aim (Again bios) = round.Again (progress aim.at (more_bios aim.bios bios) aim.fault)
after_try from aim (Stopped at bios fault) = ends_or_goes_on from (progress at (more_bios aim.bios bios) (Some fault))
