-- What a call does that writes the dirty blocks of a run of a file to the device.
use Rattle.std.specs.Prelude.{◌≡◌, ℕ, ◌≤◌, false, true, Option, None, List, [], IsTrue}
use Rattle.iob_base.specs.declared.answer.Answer.{Answer}
use Rattle.iob_base.specs.declared.answer.Fault.{Fault}
use Rattle.iob_base.specs.declared.stamp.FileId.{FileId}
use Rattle.io_model.specs.Lawful.{is_lawful_reply}
use Rattle.io_model.specs.Parts.{Span}
use Rattle.io_model.specs.declared.script.Verb.TheVariants.{Wb}
use Rattle.fault_device.specs.LaneView.{LaneView}
use Rattle.mount_parts.specs.MountView.{MountView, file_at}
use Rattle.mini_fs.specs.Acts.{Act, own_entries}
use Rattle.mini_fs.specs.CallActs.{loans_in}
use Rattle.mini_fs.specs.PassView.{PassView}
use Rattle.writeback_ioend.specs.WriteRuns.{WritesOut, end_in, written_reply}
use Rattle.writeback_ioend.specs.Writebacks.{all_written, refused_loans, turns_in, write_turns}

-- The dirty blocks that a file has of a run were written to the device, but for those that were away. The call answers how many were written, and how many bios it sent. Where the file has no block of the run, it made no turn and nothing stopped it
pub record AnswersWriteBack (m : MountView) (file : FileId) (from n : ℕ) (before after : LaneView) (p q : PassView) (answer : Answer) : Type 0 where
  pub acts : List Act
  pub stopped : Option Fault
  pub out : WritesOut m file false from (end_in m file from n) before after p q acts stopped
  pub none : end_in m file from n ≤ from → (own_entries acts ≡ []) × (stopped ≡ None)
  pub reply : answer.reply ≡ written_reply (all_written (own_entries acts)) stopped
  pub lawful : (range : Span) → IsTrue (is_lawful_reply m.geometry.grain m.geometry.block_size (file_at m file).blocks range true (Wb from n) answer.reply)
  pub bios : answer.bios ≡ loans_in acts
  pub turns : turns_in acts ≤ write_turns from (end_in m file from n) answer.bios (refused_loans (own_entries acts)) stopped
