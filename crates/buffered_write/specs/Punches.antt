-- What a call does that makes zeros of a range of a file and gives its whole blocks back.
use Rattle.std.specs.Prelude.{◌≡◌, ℕ, ◌+◌, ◌-◌, ◌^◌, min, true, false, if◌then◌else◌, Option, IfSome, IsTrue, List, [], All, replicate}
use Rattle.iob_base.specs.declared.answer.Answer.{Answer}
use Rattle.iob_base.specs.declared.answer.Fault.{Fault}
use Rattle.iob_base.specs.declared.answer.Reply.{Reply}
use Rattle.iob_base.specs.declared.answer.Reply.TheVariants as reply
use Rattle.iob_base.specs.declared.stamp.FileId.{FileId}
use Rattle.io_model.specs.Answered.{answered_in}
use Rattle.io_model.specs.Lawful.{is_lawful_reply}
use Rattle.io_model.specs.Parts.{range_in, span_length}
use Rattle.io_model.specs.declared.script.Verb.TheVariants.{Punch}
use Rattle.fault_device.specs.LaneView.{LaneView}
use Rattle.range_core.specs.EntryStamps.{stamps_in}
use Rattle.range_core.specs.Stamps.{done_by}
use Rattle.mount_parts.specs.MountView.{MountView, file_at}
use Rattle.mini_fs.specs.Acts.{Act, bios_in, own_entries}
use Rattle.mini_fs.specs.CallActs.{CallActs, loans_in, size_acts, tag_of}
use Rattle.mini_fs.specs.Mappings.{file_end}
use Rattle.mini_fs.specs.PassView.{PassView}
use Rattle.call_parts.specs.Causes.{IsCaused}
use Rattle.call_parts.specs.Parts.{read_to, stamps_over}
use Rattle.call_parts.specs.Replies.{end_stop, read_reply}
use Rattle.call_parts.specs.Steps.{IsPlaced, ServedBy, dones_in}
use Rattle.buffered_write.specs.Clears.{IsOfClearing, may_clear}
use Rattle.buffered_write.specs.Lays.{IsDry, IsLeftAfter, LieOn, laid_in}
use Rattle.buffered_write.specs.LaysLocked.{HeldExclusive, HoldsClass}
use Rattle.buffered_write.specs.PartReads.{KeepsBudget}
use Rattle.buffered_write.specs.Pwrites.{has_room}

-- a clearing of a range met no size, wiped the blocks that the range covers whole, and laid zeros over bytes of those that it covers in part
abbrev pub IsSizeless : MountView → ℕ → ℕ → List Act → Type 0
IsSizeless m from to acts = (size_acts acts ≡ []) × All (IsOfClearing m.geometry.block_size from to) (own_entries acts)

-- the same under the exclusive class of the file
abbrev pub IsPunched : MountView → FileId → ℕ → ℕ → List Act → Type 0
IsPunched m file from to acts = HeldExclusive file acts × IsSizeless m from to acts

-- how a punch replies of so many bytes from an offset on, in a file that ends at a byte, that did some of them and then met a fault or none
abbrev pub punch_reply : ℕ → ℕ → ℕ → ℕ → Option Fault → Reply
punch_reply end off asked count fault = if has_room end off asked then read_reply asked (span_length (range_in end off asked)) count fault else reply.Ok 0 (end_stop asked 0)

-- What a punch of a file did, from an offset on: it made zeros of as many bytes as it answers, in order, all while it held the exclusive class, stamped each block of these once, laid and stamped nothing else, and met no size. Of its range, cut at the file's end, it wiped the blocks that it covers whole, and no others. Where nobody else comes between, it sends at most one bio for each block that the range covers in part
pub record Punches (m : MountView) (file : FileId) (call off asked : ℕ) (before after : LaneView) (p q : PassView) (answer : Answer) : Type 0 where
  pub count : ℕ
  pub fault : Option Fault
  pub acts : List Act
  pub did : CallActs m file (may_clear (file_at m file).mode (tag_of p call)) p q acts
  pub callers : All (λ e. e.caller ≡ p.caller) (own_entries acts)
  pub placed : All (IsPlaced m file) acts
  pub run : bios_in acts ≡ loans_in acts
  pub lane : ServedBy before after (dones_in (own_entries acts))
  pub class : HoldsClass (has_room (file_end m file) off asked) file call acts
  pub sizes : size_acts acts ≡ []
  pub laid : LieOn off (off + count) (replicate count 0) (laid_in m.geometry.block_size (own_entries acts))
  pub parts : All (IsOfClearing m.geometry.block_size off (read_to (file_end m file) off asked)) (own_entries acts)
  pub stamps : stamps_in m.geometry.block_size (own_entries acts) ≡ stamps_over m.geometry.block_size (answered_in m.geometry.block_size (range_in (file_end m file) off asked) false answer.reply) (done_by (tag_of p call))
  pub reply : answer.reply ≡ punch_reply (file_end m file) off asked count fault
  pub lawful : IsTrue (is_lawful_reply m.geometry.grain m.geometry.block_size (file_at m file).blocks (range_in (file_end m file) off asked) true (Punch off asked) answer.reply)
  pub cause : IfSome fault (IsCaused m (own_entries acts))
  pub stops : IfSome fault (λ f. IsLeftAfter m.geometry.block_size off count)
  pub bios : answer.bios ≡ min (loans_in acts) (2 ^ 64 - 1)
  pub budget : KeepsBudget m file off (read_to (file_end m file) off asked) p acts
  pub dry : IsDry m file acts
