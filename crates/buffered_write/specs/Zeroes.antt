-- What a call does that lays zeros over a range of a file.
use Rattle.std.specs.Prelude.{◌≡◌, ℕ, ◌+◌, ◌-◌, ◌^◌, ◌<◌, ◌≤◌, Result, Ok, Err, min, Bool, true, false, not, ◌&&◌, Option, Some, None, IfSome, IsTrue, List, [], All, replicate}
use Rattle.iob_base.specs.declared.answer.Answer.{Answer}
use Rattle.iob_base.specs.declared.answer.Fault.{Fault}
use Rattle.iob_base.specs.declared.answer.Fault.TheVariants.{Eio, NoMemory}
use Rattle.iob_base.specs.declared.stamp.FileId.{FileId}
use Rattle.iob_base.specs.declared.stamp.Mode.{Mode}
use Rattle.iob_base.specs.declared.stamp.Mode.TheVariants.{Cached, Dax}
use Rattle.iob_base.specs.declared.stamp.Tag.{Tag}
use Rattle.io_model.specs.Answered.{answered_in}
use Rattle.io_model.specs.Lawful.{is_lawful_reply}
use Rattle.io_model.specs.Parts.{range_in}
use Rattle.io_model.specs.declared.script.Verb.TheVariants.{Zero}
use Rattle.fault_device.specs.LaneView.{LaneView}
use Rattle.iomap_core.specs.IterView.{IterView}
use Rattle.iomap_core.specs.Mappings.{IsBegun}
use Rattle.iomap_core.specs.declared.mapping.Iomap.{Iomap}
use Rattle.range_core.specs.EntryStamps.{stamps_in}
use Rattle.range_core.specs.Stamps.{done_by}
use Rattle.range_core.specs.declared.entry.Event.{Event}
use Rattle.range_core.specs.declared.entry.Event.TheVariants.{DaxZero, FillBack, LendRead, Sample as Look, StoreZeros}
use Rattle.range_core.specs.declared.fault.EventFault.{EventFault}
use Rattle.range_core.specs.declared.fault.EventFault.TheVariants.{Cold, Poison, Stale}
use Rattle.mount_parts.specs.MountView.{MountView, file_at, stripe_at}
use Rattle.mini_fs.specs.Acts.{Act, bios_in, own_entries}
use Rattle.mini_fs.specs.CallActs.{CallActs, is_tag, loans_in, size_acts, tag_of}
use Rattle.mini_fs.specs.Mappings.{IsGivenAt, IsOpen, TellsFrom, file_end}
use Rattle.mini_fs.specs.PassView.{PassView}
use Rattle.mini_fs.specs.Turns.{block_at}
use Rattle.mini_fs.specs.declared.begun.Begun.{Begun}
use Rattle.call_parts.specs.Causes.{IsCaused}
use Rattle.call_parts.specs.Parts.{read_to, stamps_over}
use Rattle.call_parts.specs.Steps.{IsPlaced, ServedBy, dones_in}
use Rattle.call_parts.specs.declared.progress.Progress.{Progress}
use Rattle.buffered_write.specs.Lays.{HasLaid, IsDeviceOrMemory, IsDry, IsLeftAfter, LaysNothing, LieOn, laid_in}
use Rattle.buffered_write.specs.LaysLocked.{HoldsClass}
use Rattle.buffered_write.specs.PartReads.{KeepsBudget, ReadsInPart}
use Rattle.buffered_write.specs.Pwrites.{IsInPart, came_of, has_room, progress, write_reply}
use Rattle.buffered_write.specs.declared.store_part.Try.{Try}
use Rattle.buffered_write.specs.declared.store_part.Try.TheVariants as try

abbrev pub is_cached : Mode → Bool
is_cached Cached = true
is_cached Dax = false

-- the events of zeros that are laid over a range of a file of some mode: looks, and in the page cache those that lay them and reads of cold blocks, and without one those that lay them in the sectors
abbrev pub may_zero : Mode → Tag → Event → Bool
may_zero mode tag (Look block most) = true
may_zero mode tag (StoreZeros by seen from to) = is_cached mode && is_tag by tag
may_zero mode tag (DaxZero by seen from to) = not (is_cached mode) && is_tag by tag
may_zero mode tag (LendRead block most) = is_cached mode
may_zero mode tag (FillBack ticket block blocks done) = is_cached mode
may_zero mode tag _ = false

-- how a part goes on that was to be zeroed in the sectors and was refused
abbrev pub after_refusal : EventFault → Try
after_refusal (Stale sample now) = try.Stale
after_refusal (Poison done) = try.Stopped (Eio done.lane done.before done.after)
after_refusal _ = try.Stopped NoMemory

module _ (m : MountView) (file : FileId) (by : Tag) (from to : ℕ) where
  -- Zeros were laid over a file from a place on, up to where the call came, which was to come to another. Only blocks that the range covers in part were read first
  pub record Zeroes (before after : LaneView) (p q : PassView) (came : Progress) : Type 0 where
    pub laid : HasLaid m (may_zero (file_at m file).mode by) file by from (replicate (came.at - from) 0) before after p q came
    pub few : ReadsInPart m file from to came.fault laid.acts
    pub fault : IfSome came.fault IsDeviceOrMemory

  -- Zeros of one part were refused: a block that was cold is one of the file that the part covers in part, and nothing was done, whatever lane the call has
  pub record RefusedZeros (p q : PassView) (refused : EventFault) : Type 0 where
    pub nothing : (lane : LaneView) → LaysNothing m (may_zero (file_at m file).mode by) file lane lane p q 0 None
    pub block : (b : ℕ) → refused ≡ Cold b → IsInPart m file from to b

  -- what one turn came to that was to lay zeros up to a place, whatever lane the call has
  abbrev pub ZeroedOnce : PassView → PassView → Result (Unit {0}) EventFault → Type 0
  ZeroedOnce p q (Ok done) = (lane : LaneView) → Zeroes lane lane p q (progress to 0 None)
  ZeroedOnce p q (Err refused) = RefusedZeros p q refused

  -- the same of a turn that a lane judged
  abbrev pub ZeroedThrough : LaneView → LaneView → PassView → PassView → Result (Unit {0}) EventFault → Type 0
  ZeroedThrough before after p q (Ok done) = Zeroes before after p q (progress to 0 None)
  ZeroedThrough before after p q (Err refused) = Zeroes before after p q (came_of from to 0 (after_refusal refused))

-- The mapping of a position is the one that a pass began last: it tells of a sample that was given to the pass
pub record HasBegun (m : MountView) (file : FileId) (pos : ℕ) (p : PassView) (iomap : Iomap) : Type 0 where
  pub begun : Begun
  pub noted : p.begun ≡ Some begun
  pub iomap_is : begun.iomap ≡ iomap
  pub unended : IsOpen m p iomap
  pub tells : TellsFrom m file (block_at m pos) begun
  pub given : IsGivenAt p (stripe_at m file (block_at m pos)) begun.sample
  pub begins : IsBegun file pos iomap

-- What is left of a range lies in its file
pub record IsToZero (m : MountView) (it : IterView) : Type 0 where
  pub within : it.pos + it.left ≤ file_end m it.file
  pub fits : it.pos + it.left < 2 ^ 64

-- What a call of zeros did, from an offset on: it laid as many zeros over the file as it answers, all while it held the exclusive class, stamped each block of these once, laid and stamped nothing else, and met no size. Where nobody else comes between, it sends at most one bio for each block that its range covers in part
pub record ZeroesRange (m : MountView) (file : FileId) (call off asked : ℕ) (before after : LaneView) (p q : PassView) (answer : Answer) : Type 0 where
  pub count : ℕ
  pub fault : Option Fault
  pub acts : List Act
  pub did : CallActs m file (may_zero (file_at m file).mode (tag_of p call)) p q acts
  pub callers : All (λ e. e.caller ≡ p.caller) (own_entries acts)
  pub placed : All (IsPlaced m file) acts
  pub run : bios_in acts ≡ loans_in acts
  pub lane : ServedBy before after (dones_in (own_entries acts))
  pub class : HoldsClass (has_room (file_end m file) off asked) file call acts
  pub sizes : size_acts acts ≡ []
  pub laid : LieOn off (off + count) (replicate count 0) (laid_in m.geometry.block_size (own_entries acts))
  pub stamps : stamps_in m.geometry.block_size (own_entries acts) ≡ stamps_over m.geometry.block_size (answered_in m.geometry.block_size (range_in (file_end m file) off asked) false answer.reply) (done_by (tag_of p call))
  pub reply : answer.reply ≡ write_reply (file_end m file) off asked count fault
  pub lawful : IsTrue (is_lawful_reply m.geometry.grain m.geometry.block_size (file_at m file).blocks (range_in (file_end m file) off asked) true (Zero off asked) answer.reply)
  pub cause : IfSome fault (IsCaused m (own_entries acts))
  pub stops : IfSome fault (λ f. IsLeftAfter m.geometry.block_size off count)
  pub bios : answer.bios ≡ min (loans_in acts) (2 ^ 64 - 1)
  pub budget : KeepsBudget m file off (read_to (file_end m file) off asked) p acts
  pub dry : IsDry m file acts
