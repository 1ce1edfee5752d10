-- What a flush of a run of a file does, and how it leaves the pass of the call in which it runs.
use Rattle.std.specs.Prelude.{◌≡◌, ℕ, ◌≤◌, true, Option, Some, None, IfSome, List, []}
use Rattle.iob_base.specs.declared.answer.Fault.{Fault}
use Rattle.iob_base.specs.declared.answer.Fault.TheVariants.{Eio}
use Rattle.iob_base.specs.declared.stamp.FileId.{FileId}
use Rattle.fault_device.specs.LaneView.{LaneView}
use Rattle.fault_device.specs.declared.lane.Done.{Done}
use Rattle.mount_parts.specs.MountView.{MountView}
use Rattle.mini_fs.specs.Acts.{Act, own_entries}
use Rattle.mini_fs.specs.CallActs.{loans_in}
use Rattle.mini_fs.specs.Calls.{KeepsShares}
use Rattle.mini_fs.specs.PassView.{IsPassOf, PassView}
use Rattle.mini_fs.specs.Tickets.{KeepsTickets}
use Rattle.call_parts.specs.Causes.{IsCaused}
use Rattle.writeback_ioend.specs.WriteRuns.{WritesOut, end_in}
use Rattle.writeback_ioend.specs.Writebacks.{first_failed, refused_loans, turns_in, write_turns}
use Rattle.writeback_ioend.specs.declared.flushing.Flushed.{Flushed}

-- why a flush came to nothing whose first failed transfer did this and which was stopped by this fault, or by none: a failed transfer comes first
abbrev pub flush_fault : Option Done → Option Fault → Option Fault
flush_fault (Some done) stopped = Some (Eio done.lane done.before done.after)
flush_fault None stopped = stopped

-- The dirty blocks that a file has of a run were written to the device, and those that were away once they were back. The flush tells why some may be dirty still, the first failed transfer in order of blocks before all else, and how many bios it sent. Where the file has no block of the run, it made no turn and nothing stopped it
pub record Flushes (m : MountView) (file : FileId) (from n : ℕ) (before after : LaneView) (p q : PassView) (flushed : Flushed) : Type 0 where
  pub acts : List Act
  pub stopped : Option Fault
  pub out : WritesOut m file true from (end_in m file from n) before after p q acts stopped
  pub none : end_in m file from n ≤ from → (own_entries acts ≡ []) × (stopped ≡ None)
  pub fault : flushed.fault ≡ flush_fault (first_failed (own_entries acts)) stopped
  pub cause : IfSome flushed.fault (IsCaused m (own_entries acts))
  pub bios : flushed.bios ≡ loans_in acts
  pub turns : turns_in acts ≤ write_turns from (end_in m file from n) flushed.bios (refused_loans (own_entries acts)) stopped

-- What runs inside a call leaves its pass the number of the call, its shares and numbers, the classes that it holds, its mapping and its tickets
pub record LeavesCall (m : MountView) (p q : PassView) : Type 0 where
  pub of : IsPassOf m q
  pub last : q.last ≡ p.last
  pub caller : q.caller ≡ p.caller
  pub spare : q.spare ≡ p.spare
  pub shares : KeepsShares p q
  pub locks : q.locks ≡ p.locks
  pub begun : q.begun ≡ p.begun
  pub tickets : KeepsTickets p q
