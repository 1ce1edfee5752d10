-- What a call does that reads bytes of a cached file through the page cache.
use Rattle.std.specs.Prelude.{◌≡◌, ℕ, suc, ◌+◌, ◌-◌, ◌/◌, ◌<◌, ◌≤◌, ◌^◌, min, true, false, All, IfOk, IfSome, IsTrue, Result, Ok, Err, Option, Some, List, [], ◌∷◌, length}
use Rattle.std.specs.declared.alloc.AllocError.{AllocError}
use Rattle.iob_base.specs.declared.answer.Answer.{Answer}
use Rattle.iob_base.specs.declared.answer.Fault.{Fault}
use Rattle.iob_base.specs.declared.answer.Fault.TheVariants.{NoMemory}
use Rattle.iob_base.specs.declared.stamp.FileId.{FileId}
use Rattle.iob_base.specs.declared.stamp.Tag.{Tag}
use Rattle.io_model.specs.Answered.{answered_in}
use Rattle.io_model.specs.Lawful.{is_lawful_reply}
use Rattle.io_model.specs.Parts.{blocks_met, range_in, span, span_length}
use Rattle.io_model.specs.declared.script.Verb.TheVariants.{Pread}
use Rattle.iov_iter.specs.IovView.{IovView, written_on}
use Rattle.inode_lock.specs.View.{LockView}
use Rattle.inode_lock.specs.declared.word.Class.TheVariants.{Cached}
use Rattle.fault_device.specs.LaneView.{LaneView}
use Rattle.range_core.specs.EntryStamps.{stamps_in}
use Rattle.range_core.specs.Stamps.{done_by}
use Rattle.size_core.specs.declared.entry.SizeEntry.{SizeEntry}
use Rattle.size_core.specs.declared.entry.SizeEvent.TheVariants.{See}
use Rattle.mount_parts.specs.MountView.{MountView, file_at}
use Rattle.mini_fs.specs.Acts.{Act, bios_in, own_entries}
use Rattle.mini_fs.specs.Acts.Act.{Leave, SizeTurn, Take}
use Rattle.mini_fs.specs.CallActs.{CallActs, loans_in, lock_acts, size_acts, tag_of}
use Rattle.mini_fs.specs.Mappings.{file_end}
use Rattle.mini_fs.specs.PassView.{PassView}
use Rattle.call_parts.specs.Budgets.{HasHappenedTo, IsAlone, LendsFew}
use Rattle.call_parts.specs.Causes.{IsCaused}
use Rattle.call_parts.specs.Parts.{read_to, stamps_over}
use Rattle.buffered_read.specs.Preads.{EndsAt, HasReadUpTo, ReadOn, may_read}
use Rattle.call_parts.specs.Reads.{bytes_read}
use Rattle.call_parts.specs.Replies.{read_reply}
use Rattle.call_parts.specs.Steps.{IsPlaced, ServedBy, dones_in}
use Rattle.call_parts.specs.declared.progress.Progress.{Progress}

-- The acts are one look of a caller's call at a size cell, which found a size of at most so many bytes, or had no memory for its entry
pub record LooksAtSize (cell end caller : ℕ) (by : Tag) (acts : List Act) (found : Result ℕ AllocError) : Type 0 where
  pub others : List SizeEntry
  pub own : SizeEntry
  pub acts_are : acts ≡ SizeTurn cell others own ∷ []
  pub caller_is : own.caller ≡ caller
  pub event : own.event ≡ See by found
  pub within : IfOk found (λ size. size ≤ end)

-- what a call that asks for bytes does to find where the bytes of a file end, which has so many in its blocks: of a file with a size one look, and nothing where it has none or no bytes are asked
abbrev pub FindsEnd : Option ℕ → ℕ → ℕ → ℕ → Tag → List Act → Result ℕ AllocError → Type 0
FindsEnd (Some cell) (suc asked) end caller by acts found = LooksAtSize cell end caller by acts found
FindsEnd _ asked end caller by acts found = (acts ≡ []) × (found ≡ Ok end)

-- It was found where the bytes of a file end for a call
pub record FoundEnd (m : MountView) (file : FileId) (by : Tag) (asked : ℕ) (p q : PassView) (found : Result ℕ AllocError) : Type 0 where
  pub acts : List Act
  pub did : CallActs m file (may_read by) p q acts
  pub finds : FindsEnd (file_at m file).size asked (file_end m file) p.caller by acts found

-- where the bytes of a file end by what was found, and its blocks where nothing was
abbrev pub found_end : ℕ → Result ℕ AllocError → ℕ
found_end end (Ok found) = found
found_end end (Err error) = end

-- where a read of so many bytes from an offset on stops that did so many: without a fault at the end found, with one before it, where it began or where a block ends. Without memory to look at the size it did none
abbrev pub ReadStops : ℕ → ℕ → ℕ → Result ℕ AllocError → ℕ → Option Fault → Type 0
ReadStops size off asked (Ok end) count fault = EndsAt size off (read_to end off asked) (off + count) fault
ReadStops size off asked (Err error) count fault = (count ≡ 0) × (fault ≡ Some NoMemory)

-- A read of a range that ends where the bytes of a file were found to end, and its answer
pub record ReadsCut (m : MountView) (file : FileId) (by : Tag) (off end : ℕ) (before after : LaneView) (p q : PassView) (iov later : IovView) (answer : Answer) : Type 0 where
  pub came : Progress
  pub read : HasReadUpTo m file by off (read_to end off (length iov.bytes)) before after p q iov later came
  pub count : ℕ
  pub count_is : off + count ≡ came.at
  pub reply : answer.reply ≡ read_reply (length iov.bytes) (span_length (range_in end off (length iov.bytes))) count came.fault
  pub lawful : IsTrue (is_lawful_reply m.geometry.grain m.geometry.block_size (file_at m file).blocks (range_in end off (length iov.bytes)) true (Pread off iov.lengths) answer.reply)
  pub stamps : stamps_over m.geometry.block_size (answered_in m.geometry.block_size (range_in end off (length iov.bytes)) false answer.reply) (done_by by) ≡ stamps_over m.geometry.block_size (span off came.at) (done_by by)
  pub bios : answer.bios ≡ came.bios

module _ (m : MountView) (file : FileId) where
  -- Acts of a call that reads bytes from an offset on into an iov, and its answer. They find where the bytes of the file end and read those before it in order, up to where a fault stops them, as the histories leave them; each answered block is stamped once, in order and at its stripe, and nothing else is. The fault rests on an own entry, the reply is one that the call may have, and each loan was one bio
  pub record ReadsBy (by : Tag) (off : ℕ) (before after : LaneView) (p : PassView) (iov later : IovView) (answer : Answer) (acts : List Act) : Type 0 where
    pub found : Result ℕ AllocError
    pub count : ℕ
    pub fault : Option Fault
    pub callers : All (λ e. e.caller ≡ p.caller) (own_entries acts)
    pub placed : All (IsPlaced m file) acts
    pub run : bios_in acts ≡ loans_in acts
    pub lane : ServedBy before after (dones_in (own_entries acts))
    pub sizes : FindsEnd (file_at m file).size (length iov.bytes) (file_end m file) p.caller by (size_acts acts) found
    pub stops : ReadStops m.geometry.block_size off (length iov.bytes) found count fault
    pub stamps : stamps_in m.geometry.block_size (own_entries acts) ≡ stamps_over m.geometry.block_size (answered_in m.geometry.block_size (range_in (found_end (file_end m file) found) off (length iov.bytes)) false answer.reply) (done_by by)
    pub bytes : later ≡ written_on (bytes_read m p [] acts) iov
    pub counted : length (bytes_read m p [] acts) ≡ count
    pub parts : ReadOn off (off + count) (own_entries acts)
    pub reply : answer.reply ≡ read_reply (length iov.bytes) (span_length (range_in (found_end (file_end m file) found) off (length iov.bytes))) count fault
    pub lawful : IsTrue (is_lawful_reply m.geometry.grain m.geometry.block_size (file_at m file).blocks (range_in (found_end (file_end m file) found) off (length iov.bytes)) true (Pread off iov.lengths) answer.reply)
    pub cause : IfSome fault (IsCaused m (own_entries acts))
    pub bios : answer.bios ≡ min (loans_in acts) (2 ^ 64 - 1)
    pub few : LendsFew m file (λ b. true) (off / m.geometry.block_size) (blocks_met m.geometry.block_size (range_in (found_end (file_end m file) found) off (length iov.bytes))) fault acts

  -- A read under a class that is held: its acts are at no lock and begin no call
  pub record ReadsHeld (by : Tag) (off : ℕ) (before after : LaneView) (p q : PassView) (iov later : IovView) (answer : Answer) : Type 0 where
    pub acts : List Act
    pub did : CallActs m file (may_read by) p q acts
    pub locks : lock_acts acts ≡ []
    pub last : q.last ≡ p.last
    pub read : ReadsBy by off before after p iov later answer acts

-- the acts took the cached class of a file, left it, and did nothing else at a lock
abbrev pub TookCached : FileId → List Act → Type 0
TookCached file acts = (a b c d : LockView) × (lock_acts acts ≡ Take file Cached a b ∷ Leave file Cached c d ∷ [])

-- no more bios are sent than so many blocks from one on, where no entry of anybody else stands between those of the acts
abbrev pub KeepsBudget : MountView → FileId → ℕ → ℕ → PassView → List Act → Type 0
KeepsBudget m file low n p acts = IsAlone acts → ((b : ℕ) → low ≤ b → b < low + n → HasHappenedTo m file p acts b) → loans_in acts ≤ n

-- What a call did that reads bytes of a cached file from an offset on into an iov, under the cached class. Where nobody else comes between, it sends at most one bio for each block of its range
pub record Preads (m : MountView) (file : FileId) (call off : ℕ) (before after : LaneView) (p q : PassView) (iov later : IovView) (answer : Answer) : Type 0 where
  pub acts : List Act
  pub did : CallActs m file (may_read (tag_of p call)) p q acts
  pub class : TookCached file acts
  pub read : ReadsBy m file (tag_of p call) off before after p iov later answer acts
  pub budget : KeepsBudget m file (off / m.geometry.block_size) (blocks_met m.geometry.block_size (range_in (found_end (file_end m file) read.found) off (length iov.bytes))) p acts
