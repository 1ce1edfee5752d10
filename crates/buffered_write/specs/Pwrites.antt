-- What a write through the page cache does.
use Rattle.std.specs.Prelude.{◌≡◌, ℕ, ◌+◌, ◌-◌, ◌/◌, ◌^◌, ◌<◌, ◌≤◌, Ok, Err, ◌==◌, nat_le, is_none, min, Bool, true, false, not, ◌&&◌, if◌then◌else◌, Option, Some, None, IfSome, IsTrue, Result, List, [], ◌∷◌, All, drop, length, take}
use Rattle.std.specs.List.{concat}
use Rattle.iob_base.specs.declared.answer.Answer.{Answer}
use Rattle.iob_base.specs.declared.answer.Fault.{Fault}
use Rattle.iob_base.specs.declared.answer.Fault.TheVariants.{Eio, NoMemory, TooFar}
use Rattle.iob_base.specs.declared.answer.Reply.{Reply}
use Rattle.iob_base.specs.declared.answer.Reply.TheVariants as reply
use Rattle.iob_base.specs.declared.answer.Stop.TheVariants.{Whole}
use Rattle.iob_base.specs.declared.stamp.FileId.{FileId}
use Rattle.iob_base.specs.declared.stamp.Tag.{Tag}
use Rattle.io_model.specs.Answered.{answered_in}
use Rattle.io_model.specs.Lawful.{is_lawful_reply}
use Rattle.io_model.specs.Parts.{blocks_met, range_in, span, span_length}
use Rattle.io_model.specs.declared.script.Verb.TheVariants.{Pwrite}
use Rattle.iov_iter.specs.IovView.{IovView, moved_to}
use Rattle.fault_device.specs.LaneView.{LaneView}
use Rattle.iomap_core.specs.IterView.{IterView}
use Rattle.iomap_core.specs.Mappings.{IsBegun}
use Rattle.iomap_core.specs.declared.mapping.Iomap.{Iomap}
use Rattle.range_core.specs.ByteRuns.{HasNext}
use Rattle.range_core.specs.EntryStamps.{stamps_in}
use Rattle.range_core.specs.Kinds.{is_hole}
use Rattle.range_core.specs.Refusals.{covers_in_part}
use Rattle.range_core.specs.Stamps.{done_by}
use Rattle.range_core.specs.Stores.{past}
use Rattle.range_core.specs.declared.entry.Event.{Event}
use Rattle.range_core.specs.declared.entry.Event.TheVariants.{FillBack, LendRead, Reserve, Sample as Look, Store, Unreserve}
use Rattle.range_core.specs.declared.fault.EventFault.{EventFault}
use Rattle.range_core.specs.declared.fault.EventFault.TheVariants.{Cold}
use Rattle.mount_parts.specs.MountView.{HasBlock, MountView, file_at, stripe_at}
use Rattle.mini_fs.specs.Acts.{Act, bios_in, own_entries}
use Rattle.mini_fs.specs.CallActs.{CallActs, is_tag, loans_in, lock_acts, size_acts, tag_of}
use Rattle.mini_fs.specs.Mappings.{IsGivenAt, IsOpen, TellsFrom, file_end}
use Rattle.mini_fs.specs.PassView.{IsPassOf, PassView}
use Rattle.mini_fs.specs.SizeTurns.{size_at}
use Rattle.mini_fs.specs.Tickets.{KeepsTickets}
use Rattle.mini_fs.specs.Turns.{block_at}
use Rattle.mini_fs.specs.declared.begun.Begun.{Begun}
use Rattle.call_parts.specs.Budgets.{LendsFew}
use Rattle.call_parts.specs.Causes.{IsCaused}
use Rattle.buffered_write.specs.Grows.{AreSizeTurns, GrowsSize, MeetsSize, grown}
use Rattle.buffered_write.specs.Lays.{HasLaid, IsDeviceOrMemory, IsLeftAfter, LaysNothing, LieOn, laid_in}
use Rattle.buffered_write.specs.LaysLocked.{HeldExclusive, HoldsClass}
use Rattle.buffered_write.specs.PartReads.{KeepsBudget, ReadsInPart}
use Rattle.call_parts.specs.Fills.{fills}
use Rattle.call_parts.specs.Parts.{read_to, stamps_over}
use Rattle.call_parts.specs.Replies.{read_reply}
use Rattle.call_parts.specs.Steps.{IsPlaced, ServedBy, dones_in}
use Rattle.call_parts.specs.declared.cold.Fill.{Fill}
use Rattle.call_parts.specs.declared.cold.Fill.TheVariants as fill
use Rattle.call_parts.specs.declared.progress.Progress.{Progress}
use Rattle.buffered_write.specs.declared.store_part.Try.{Try}
use Rattle.buffered_write.specs.declared.store_part.Written.{Written}
use Rattle.buffered_write.specs.declared.store_part.Try.TheVariants as try

-- the events of a write through the page cache; a store has as many bytes as its range
abbrev pub may_write : Tag → Event → Bool
may_write tag (Look block most) = true
may_write tag (Reserve seen blocks) = true
may_write tag (Unreserve block blocks) = true
may_write tag (Store by seen from to bytes) = is_tag by tag && length bytes == to - from
may_write tag (LendRead block most) = true
may_write tag (FillBack ticket block blocks done) = true
may_write tag _ = false

abbrev pub progress : ℕ → ℕ → Option Fault → Progress
progress at bios fault = record { at = at; bios = bios; fault = fault }

-- how far a try came that was to store the bytes from one place up to another, and sent so many bios
abbrev pub came_of : ℕ → ℕ → ℕ → Try → Progress
came_of from to bios try.Stored = progress to bios None
came_of from to bios try.Again = progress from bios None
came_of from to bios try.Stale = progress from bios None
came_of from to bios (try.Stopped fault) = progress from bios (Some fault)

-- how far a call came that had come some way without a fault, and then went on
abbrev pub followed : Progress → Progress → Progress
followed came next = progress next.at (min (came.bios + next.bios) (2 ^ 64 - 1)) next.fault

-- how a part goes on whose cold block was to be read
abbrev pub after_fill : Fill → Try
after_fill fill.Filled = try.Again
after_fill fill.Again = try.Again
after_fill (fill.Failed block done) = try.Stopped (Eio done.lane done.before done.after)
after_fill fill.NoMemory = try.Stopped NoMemory

-- A block was to be read into the cache: nothing was laid, and no other block was read
pub record WarmsBlock (m : MountView) (file : FileId) (block : ℕ) (before after : LaneView) (p q : PassView) (bios : ℕ) (fault : Option Fault) : Type 0 where
  pub nothing : LaysNothing m fills file before after p q bios fault
  pub few : LendsFew m file (λ b. true) block 1 fault nothing.acts

-- a cold block was to be read into the cache, and how the part that needs it goes on
abbrev pub Warmed : MountView → FileId → ℕ → LaneView → LaneView → PassView → PassView → ℕ → Try → Type 0
Warmed m file block before after p q bios try.Stored = ⊥
Warmed m file block before after p q bios try.Again = WarmsBlock m file block before after p q bios None
Warmed m file block before after p q bios try.Stale = ⊥
Warmed m file block before after p q bios (try.Stopped fault) = WarmsBlock m file block before after p q bios (Some fault) × IsDeviceOrMemory fault

-- A block of a file has bytes of a range, which covers it in part
pub record IsInPart (m : MountView) (file : FileId) (from to b : ℕ) : Type 0 where
  pub exists : HasBlock m file b
  pub low : from / m.geometry.block_size ≤ b
  pub high : b < from / m.geometry.block_size + blocks_met m.geometry.block_size (span from to)
  pub part : covers_in_part m.geometry.block_size from to b ≡ true

module _ (m : MountView) (file : FileId) (by : Tag) (from to : ℕ) where
  -- The next bytes of an iov were laid over a file from a place on, up to where the write came, which was to come to another, and the iov's place moved on by them. Only blocks that the range covers in part were read first
  pub record Writes (before after : LaneView) (p q : PassView) (iov later : IovView) (came : Progress) : Type 0 where
    pub laid : HasLaid m (may_write by) file by from (drop iov.place iov.bytes) before after p q came
    pub few : ReadsInPart m file from to came.fault laid.acts
    pub moved : later ≡ past iov (came.at - from)

  -- A store of one part was refused: a block that was cold is one of the file that the part covers in part, and nothing was done, whatever lane the call has
  pub record RefusedStore (p q : PassView) (iov later : IovView) (refused : EventFault) : Type 0 where
    pub nothing : (lane : LaneView) → LaysNothing m (may_write by) file lane lane p q 0 None
    pub same : later ≡ iov
    pub block : (b : ℕ) → refused ≡ Cold b → IsInPart m file from to b

  -- what one store of the bytes up to a place came to, whatever lane the call has
  abbrev pub StoredOnce : PassView → PassView → IovView → IovView → Result (Unit {0}) EventFault → Type 0
  StoredOnce p q iov later (Ok done) = (lane : LaneView) → Writes lane lane p q iov later (progress to 0 None)
  StoredOnce p q iov later (Err refused) = RefusedStore p q iov later refused

-- a part was stored whole, and the write goes on behind it
abbrev pub is_whole : Written → Bool
is_whole part = if part.stale then false else is_none part.came.fault

-- a mapping that was found stale, or not
abbrev pub marked : Iomap → Bool → Iomap
marked iomap stale = record iomap { flags = record iomap.flags { stale = stale } }

-- The mapping of a position that a pass began last is to be written: it tells of a sample that is no hole and was given to the pass
pub record HasMapped (m : MountView) (file : FileId) (pos : ℕ) (p : PassView) (iomap : Iomap) : Type 0 where
  pub begun : Begun
  pub noted : p.begun ≡ Some begun
  pub iomap_is : begun.iomap ≡ iomap
  pub unended : IsOpen m p iomap
  pub tells : TellsFrom m file (block_at m pos) begun
  pub given : IsGivenAt p (stripe_at m file (block_at m pos)) begun.sample
  pub space : is_hole begun.sample.extent.kind ≡ false
  pub begins : IsBegun file pos iomap

-- What is left of a range lies in its file, and the iov has as many bytes next
pub record IsToWrite (m : MountView) (it : IterView) (iov : IovView) : Type 0 where
  pub within : it.pos + it.left ≤ file_end m it.file
  pub fits : it.pos + it.left < 2 ^ 64
  pub room : HasNext iov it.left

-- The range of a call was gone over up to a place, with its last mapping ended
pub record CameOn (it later : IterView) (at : ℕ) : Type 0 where
  pub file : later.file ≡ it.file
  pub pos : later.pos ≡ at
  pub left : at + later.left ≡ it.pos + it.left
  pub ended : later.unfinished ≡ None

-- how a write replies of so many bytes from an offset on, in a file that ends at a byte, that did some of them and then met a fault or none
abbrev pub write_reply : ℕ → ℕ → ℕ → ℕ → Option Fault → Reply
write_reply end off asked count fault =
    if asked == 0 then reply.Ok 0 Whole else (if nat_le end off then reply.Err (TooFar off end) 0 else read_reply asked (span_length (range_in end off asked)) count fault)

-- the write has bytes, and begins before the end of the file
abbrev pub has_room : ℕ → ℕ → ℕ → Bool
has_room end off asked = not (asked == 0) && not (nat_le end off)

-- The next bytes of an iov were laid over a file from a place on, up to where the write came, which was to come to another, each block that has some of them was stamped once, and nothing else was laid or stamped. Only blocks that the range covers in part were read first. `Also` holds of the acts, which may be at the file's lock and size too
pub record WroteWith (Also : List Act → Type 0) (m : MountView) (file : FileId) (by : Tag) (from to : ℕ) (before after : LaneView) (p q : PassView) (iov later : IovView) (came : Progress) : Type 0 where
  pub acts : List Act
  pub also : Also acts
  pub of : IsPassOf m q
  pub did : CallActs m file (may_write by) p q acts
  pub last : q.last ≡ p.last
  pub callers : All (λ e. e.caller ≡ p.caller) (own_entries acts)
  pub placed : All (IsPlaced m file) acts
  pub run : bios_in acts ≡ loans_in acts
  pub lane : ServedBy before after (dones_in (own_entries acts))
  pub tickets : KeepsTickets p q
  pub begins : from ≤ came.at
  pub laid : LieOn from came.at (take (came.at - from) (drop iov.place iov.bytes)) (laid_in m.geometry.block_size (own_entries acts))
  pub stamps : stamps_in m.geometry.block_size (own_entries acts) ≡ stamps_over m.geometry.block_size (span from came.at) (done_by by)
  pub cause : IfSome came.fault (IsCaused m (own_entries acts))
  pub bios : came.bios ≡ min (loans_in acts) (2 ^ 64 - 1)
  pub few : ReadsInPart m file from to came.fault acts
  pub moved : later ≡ past iov (came.at - from)

-- a write that met no lock and no size, and one that used a room at the size behind its bytes
abbrev pub IsPlain : List Act → Type 0
IsPlain acts = (lock_acts acts ≡ []) × (size_acts acts ≡ [])

abbrev pub UsesRoom : MountView → FileId → ℕ → Tag → ℕ → ℕ → List Act → Type 0
UsesRoom m file caller by from count acts = (lock_acts acts ≡ []) × AreSizeTurns caller (size_at m file) (grown by from count ∷ []) (size_acts acts)

-- a write that met no lock and did this at the size of its file, and one under the exclusive class of the file
abbrev pub IsUnlocked : MountView → FileId → ℕ → Tag → ℕ → Progress → List Act → Type 0
IsUnlocked m file caller by from came acts = (lock_acts acts ≡ []) × GrowsSize (file_at m file).size caller by from (came.at - from) came.fault (size_acts acts)

abbrev pub IsLocked : MountView → FileId → ℕ → Tag → ℕ → Progress → List Act → Type 0
IsLocked m file caller by from came acts = HeldExclusive file acts × GrowsSize (file_at m file).size caller by from (came.at - from) came.fault (size_acts acts)

-- What a write of an iov's bytes over a file did, from an offset on: it laid the first bytes of the iov over the file, as many as it answers, in order, all while it held the exclusive class, stamped each block of these once, laid and stamped nothing else, and raised a size of the file to where these bytes end. The iov's place is behind the bytes answered. Where nobody else comes between, it sends at most one bio for each block that its range covers in part
pub record Pwrites (m : MountView) (file : FileId) (call off : ℕ) (before after : LaneView) (p q : PassView) (iov later : IovView) (answer : Answer) : Type 0 where
  pub count : ℕ
  pub fault : Option Fault
  pub acts : List Act
  pub did : CallActs m file (may_write (tag_of p call)) p q acts
  pub callers : All (λ e. e.caller ≡ p.caller) (own_entries acts)
  pub placed : All (IsPlaced m file) acts
  pub run : bios_in acts ≡ loans_in acts
  pub lane : ServedBy before after (dones_in (own_entries acts))
  pub class : HoldsClass (has_room (file_end m file) off (length iov.bytes)) file call acts
  pub sizes : MeetsSize (has_room (file_end m file) off (length iov.bytes)) (file_at m file).size p.caller (tag_of p call) off count fault acts
  pub laid : LieOn off (off + count) (take count iov.bytes) (laid_in m.geometry.block_size (own_entries acts))
  pub stamps : stamps_in m.geometry.block_size (own_entries acts) ≡ stamps_over m.geometry.block_size (answered_in m.geometry.block_size (range_in (file_end m file) off (length iov.bytes)) false answer.reply) (done_by (tag_of p call))
  pub reply : answer.reply ≡ write_reply (file_end m file) off (length iov.bytes) count fault
  pub lawful : (segments : List (List ℕ)) → concat segments ≡ iov.bytes → IsTrue (is_lawful_reply m.geometry.grain m.geometry.block_size (file_at m file).blocks (range_in (file_end m file) off (length iov.bytes)) true (Pwrite off segments) answer.reply)
  pub cause : IfSome fault (IsCaused m (own_entries acts))
  pub stops : IfSome fault (λ f. IsLeftAfter m.geometry.block_size off count)
  pub bios : answer.bios ≡ min (loans_in acts) (2 ^ 64 - 1)
  pub budget : KeepsBudget m file off (read_to (file_end m file) off (length iov.bytes)) p acts
  pub moved : later ≡ moved_to count iov
