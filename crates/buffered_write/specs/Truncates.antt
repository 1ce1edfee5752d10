-- What a call does that cuts a file to a size.
use Rattle.std.specs.Prelude.{◌≡◌, ◌⊎◌, ℕ, ◌+◌, ◌-◌, ◌^◌, ◌%◌, ◌<◌, nat_le, nat_lt, min, max, Bool, true, false, All, if◌then◌else◌, IfSome, IsTrue, OnErr, Option, Some, None, Result, List, [], replicate}
use Rattle.std.specs.declared.alloc.AllocError.{AllocError}
use Rattle.iob_base.specs.declared.answer.Answer.{Answer}
use Rattle.iob_base.specs.declared.answer.Fault.{Fault}
use Rattle.iob_base.specs.declared.answer.Fault.TheVariants.{NoMemory, TooFar}
use Rattle.iob_base.specs.declared.answer.Reply.{Reply}
use Rattle.iob_base.specs.declared.answer.Reply.TheVariants as reply
use Rattle.iob_base.specs.declared.stamp.FileId.{FileId}
use Rattle.iob_base.specs.declared.stamp.Tag.{Tag}
use Rattle.io_model.specs.Answered.{answered_in}
use Rattle.io_model.specs.Lawful.{is_lawful_reply}
use Rattle.io_model.specs.Parts.{Span}
use Rattle.io_model.specs.Ranges.{cut_range}
use Rattle.io_model.specs.declared.script.Verb.TheVariants.{Trunc}
use Rattle.fault_device.specs.LaneView.{LaneView}
use Rattle.range_core.specs.EntryStamps.{stamps_in}
use Rattle.range_core.specs.Stamps.{done_by}
use Rattle.size_core.specs.declared.entry.SizeEvent.{SizeEvent}
use Rattle.mount_parts.specs.MountView.{MountView, file_at}
use Rattle.mini_fs.specs.Acts.{Act, bios_in, own_entries}
use Rattle.mini_fs.specs.CallActs.{CallActs, loans_in, lock_acts, size_acts, tag_of}
use Rattle.mini_fs.specs.Mappings.{file_end}
use Rattle.mini_fs.specs.PassView.{PassView}
use Rattle.mini_fs.specs.SizeTurns.{size_at}
use Rattle.call_parts.specs.Causes.{IsCaused}
use Rattle.call_parts.specs.Parts.{stamps_over}
use Rattle.call_parts.specs.Replies.{read_reply}
use Rattle.call_parts.specs.Steps.{IsPlaced, ServedBy, dones_in}
use Rattle.call_parts.specs.declared.progress.Progress.{Progress}
use Rattle.buffered_write.specs.Clears.{IsOfClearing, StopsClear, may_clear}
use Rattle.buffered_write.specs.Cuts.{CutsAt, room_events}
use Rattle.buffered_write.specs.Grows.{AreSizeTurns}
use Rattle.buffered_write.specs.Lays.{IsDry, IsLeftAfter, LieOn, laid_in}
use Rattle.buffered_write.specs.LaysLocked.{HeldExclusive, HoldsClass, LaidWith}
use Rattle.buffered_write.specs.PartReads.{KeepsBudget}

-- what a cut of a file to a size clears that found this size: the bytes from there on up to the one found, in whole blocks
abbrev pub cut_span : MountView → FileId → ℕ → Option ℕ → Span
cut_span m file to found = cut_range m.geometry.block_size (file_end m file) to found

-- where that ends, or where it begins if it is empty
abbrev pub cut_end : MountView → FileId → ℕ → Option ℕ → ℕ
cut_end m file to found = max to (cut_span m file to found).to

-- a cut ends with its range, and a fault stops it before that where a block begins, or before it cleared anything
abbrev pub StopsCut : ℕ → ℕ → ℕ → ℕ → Option Fault → Type 0
StopsCut size from to at None = at ≡ to
StopsCut size from to at (Some fault) = (at ≡ from) ⊎ ((at < to) × (at % size ≡ 0))

-- Zeros lie over a file from a size on, up to where a cut came whose range ends at a place. The blocks that the range covers whole were wiped, and no others. `Also` holds of the acts, which may be at the file's lock and size too
abbrev pub ClearedWith : (List Act → Type 0) → MountView → FileId → Tag → ℕ → ℕ → LaneView → LaneView → PassView → PassView → Progress → Type 0
ClearedWith Also m file by from to before after p q came =
    LaidWith (λ acts. Also acts × All (IsOfClearing m.geometry.block_size from to) (own_entries acts)) m (may_clear (file_at m file).mode by) file by from to (replicate (to - from) 0) before after p q came

-- at the size of the file the acts of a cut are these, and it met no lock
abbrev pub MeetsOnly : MountView → FileId → ℕ → List SizeEvent → List Act → Type 0
MeetsOnly m file caller events acts = (lock_acts acts ≡ []) × AreSizeTurns caller (size_at m file) events (size_acts acts)

-- A cut that had looked at the size made room for its entry there, cleared its range, and set the size or gave the room up. Without memory for the room it cleared nothing
pub record CutsInRoom (m : MountView) (file : FileId) (by : Tag) (from to : ℕ) (before after : LaneView) (p q : PassView) (came : Progress) : Type 0 where
  pub room : Result (Unit {0}) AllocError
  pub refused : OnErr room ((came.at - from ≡ 0) × (came.fault ≡ Some NoMemory))
  pub cleared : ClearedWith (MeetsOnly m file p.caller (room_events by from came.fault room)) m file by from to before after p q came

-- A cut that met no lock, with the size that it found
pub record CutsUnlocked (m : MountView) (file : FileId) (by : Tag) (to : ℕ) (before after : LaneView) (p q : PassView) (came : Progress) : Type 0 where
  pub found : Option ℕ
  pub cleared : ClearedWith (λ acts. (lock_acts acts ≡ []) × CutsAt (size_at m file) p.caller (file_end m file) by to (came.at - to) came.fault found (size_acts acts)) m file by to (cut_end m file to found) before after p q came
  pub fault : IfSome came.fault StopsClear
  pub stops : StopsCut m.geometry.block_size to (cut_end m file to found) came.at came.fault

-- The same under the exclusive class of the file
pub record CutsLocked (m : MountView) (file : FileId) (by : Tag) (to : ℕ) (before after : LaneView) (p q : PassView) (came : Progress) : Type 0 where
  pub found : Option ℕ
  pub cleared : ClearedWith (λ acts. HeldExclusive file acts × CutsAt (size_at m file) p.caller (file_end m file) by to (came.at - to) came.fault found (size_acts acts)) m file by to (cut_end m file to found) before after p q came
  pub fault : IfSome came.fault StopsClear
  pub stops : StopsCut m.geometry.block_size to (cut_end m file to found) came.at came.fault

-- what a cut meets at the size of its file, where it is one that the file may have, and otherwise nothing
abbrev pub MeetsCut : Bool → MountView → FileId → ℕ → Tag → ℕ → ℕ → Option Fault → Option ℕ → List Act → Type 0
MeetsCut true m file caller by to count fault found acts = CutsAt (size_at m file) caller (file_end m file) by to count fault found (size_acts acts)
MeetsCut false m file caller by to count fault found acts = (size_acts acts ≡ []) × (found ≡ None)

-- how a cut to a size replies that cleared so many bytes and then met a fault or none: that it is too far where the file has no such byte in its blocks
abbrev pub cut_reply : ℕ → ℕ → ℕ → Option Fault → Reply
cut_reply end to count fault = if nat_lt end to then reply.Err (TooFar to end) 0 else read_reply count count count fault

-- What a cut of a file to a size did: under the exclusive class it looked at the size and made room for its entry, made zeros of the bytes from the size on up to the one found, in whole blocks, as many as it answers, stamped each block of these once, laid and stamped nothing else, and at last set the size, or left it after a fault. Where nobody else comes between, it sends at most one bio for each block that these bytes cover in part
pub record Truncates (m : MountView) (file : FileId) (call to : ℕ) (before after : LaneView) (p q : PassView) (answer : Answer) : Type 0 where
  pub count : ℕ
  pub fault : Option Fault
  pub found : Option ℕ
  pub acts : List Act
  pub did : CallActs m file (may_clear (file_at m file).mode (tag_of p call)) p q acts
  pub callers : All (λ e. e.caller ≡ p.caller) (own_entries acts)
  pub placed : All (IsPlaced m file) acts
  pub run : bios_in acts ≡ loans_in acts
  pub lane : ServedBy before after (dones_in (own_entries acts))
  pub class : HoldsClass (nat_le to (file_end m file)) file call acts
  pub sizes : MeetsCut (nat_le to (file_end m file)) m file p.caller (tag_of p call) to count fault found acts
  pub laid : LieOn to (to + count) (replicate count 0) (laid_in m.geometry.block_size (own_entries acts))
  pub parts : All (IsOfClearing m.geometry.block_size to (cut_end m file to found)) (own_entries acts)
  pub stamps : stamps_in m.geometry.block_size (own_entries acts) ≡ stamps_over m.geometry.block_size (answered_in m.geometry.block_size (cut_span m file to found) false answer.reply) (done_by (tag_of p call))
  pub reply : answer.reply ≡ cut_reply (file_end m file) to count fault
  pub lawful : IsTrue (is_lawful_reply m.geometry.grain m.geometry.block_size (file_at m file).blocks (cut_span m file to found) true (Trunc to) answer.reply)
  pub cause : IfSome fault (IsCaused m (own_entries acts))
  pub stops : IfSome fault (λ f. IsLeftAfter m.geometry.block_size to count)
  pub bios : answer.bios ≡ min (loans_in acts) (2 ^ 64 - 1)
  pub budget : KeepsBudget m file to (cut_end m file to found) p acts
  pub dry : IsDry m file acts
