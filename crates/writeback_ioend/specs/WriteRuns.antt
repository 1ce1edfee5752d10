-- What calls have in common that write the dirty blocks of a run of a file to the device.
use Rattle.std.specs.Prelude.{◌≡◌, ℕ, ◌+◌, ◌-◌, ◌*◌, ◌<◌, ◌≤◌, min, Bool, Option, Some, None, IfSome, List, [], All, length}
use Rattle.iob_base.specs.declared.answer.Fault.{Fault}
use Rattle.iob_base.specs.declared.answer.Reply.{Reply}
use Rattle.iob_base.specs.declared.answer.Reply.TheVariants.{Ok, Err}
use Rattle.iob_base.specs.declared.answer.Stop.TheVariants.{Whole}
use Rattle.iob_base.specs.declared.stamp.FileId.{FileId}
use Rattle.fault_device.specs.LaneView.{LaneView}
use Rattle.range_core.specs.EntryStamps.{stamps_in}
use Rattle.mount_parts.specs.MountView.{MountView, file_at}
use Rattle.mini_fs.specs.Acts.{Act, bios_in, own_entries}
use Rattle.mini_fs.specs.CallActs.{CallActs, loans_in, lock_acts, size_acts}
use Rattle.mini_fs.specs.PassView.{PassView}
use Rattle.call_parts.specs.Causes.{IsCaused}
use Rattle.call_parts.specs.Steps.{ServedBy, dones_in}
use Rattle.writeback_ioend.specs.Writebacks.{AsksAscend, AsksDue, IsMet, StopsWriteback, WritesBack, all_written, writes_back}
use Rattle.writeback_ioend.specs.declared.walk.Written.{Written}

-- where a run of so many blocks from one on ends in a file of so many: with the run, or with the file
abbrev pub run_end : ℕ → ℕ → ℕ → ℕ
run_end blocks from n = min (from + n) blocks

-- the same in a file of a mount
abbrev pub end_in : MountView → FileId → ℕ → ℕ → ℕ
end_in m file from n = run_end (file_at m file).blocks from n

-- The dirty blocks that a file has of a run were written to the device. Where the file has none of the run, no turn was made and nothing stopped it
pub record WritesRun (m : MountView) (file : FileId) (waits : Bool) (from n : ℕ) (before after : LaneView) (p q : PassView) (written : Written) : Type 0 where
  pub back : WritesBack m file waits from (end_in m file from n) before after p q written
  pub none : end_in m file from n ≤ from → (own_entries back.acts ≡ []) × (written.fault ≡ None)

-- What these acts of a call did that was stopped by this fault, or by none: they wrote dirty blocks of a file to the device, each at most once, in order, with bios of 1 to 16 blocks, each of which came back, took no class, met no size and left no stamp. They asked for no block but one that they had found dirty or away, and not again for one that they passed by. Where nothing stopped the call, no block from one up to another was missed
pub record WritesOut (m : MountView) (file : FileId) (waits : Bool) (from to : ℕ) (before after : LaneView) (p q : PassView) (acts : List Act) (stopped : Option Fault) : Type 0 where
  pub did : CallActs m file writes_back p q acts
  pub callers : All (λ e. e.caller ≡ p.caller) (own_entries acts)
  pub run : bios_in acts ≡ loans_in acts
  pub lane : ServedBy before after (dones_in (own_entries acts))
  pub locks : lock_acts acts ≡ []
  pub sizes : size_acts acts ≡ []
  pub stamps : stamps_in m.geometry.block_size (own_entries acts) ≡ []
  pub ascending : AsksAscend waits from (own_entries acts)
  pub sought : AsksDue m file p [] acts
  pub few_bios : loans_in acts ≤ to - from
  pub enough_bios : all_written (own_entries acts) ≤ loans_in acts * 16
  pub returned : length (dones_in (own_entries acts)) ≡ loans_in acts
  pub met : stopped ≡ None → (b : ℕ) → from ≤ b → b < to → IsMet waits m file b p acts
  pub stops : IfSome stopped StopsWriteback
  pub cause : IfSome stopped (IsCaused m (own_entries acts))

-- what a call replies that wrote so many blocks and then was stopped by a fault, or by none
abbrev pub written_reply : ℕ → Option Fault → Reply
written_reply count None = Ok count Whole
written_reply count (Some fault) = Err fault 0
