-- What a fault of a call rests on: an entry of the call itself.
use Rattle.std.specs.Prelude.{◌≡◌, ℕ, ◌<◌, true, Some, List, length, slice_get}
use Rattle.iob_base.specs.declared.answer.Fault.{Fault}
use Rattle.iob_base.specs.declared.answer.Fault.TheVariants.{Eio, NoMemory, NoSpace, Worn}
use Rattle.fault_device.specs.declared.lane.Done.{Done}
use Rattle.range_core.specs.declared.entry.Entry.{Entry}
use Rattle.range_core.specs.declared.entry.Outcome.TheVariants.{Refused}
use Rattle.range_core.specs.declared.fault.EventFault.{EventFault}
use Rattle.range_core.specs.declared.fault.EventFault.TheVariants as refusal
use Rattle.mount_parts.specs.MountView.{MountView}
use Rattle.call_parts.specs.Steps.{dones_in}

-- one of a list is so
abbrev pub HasOne : {A : Type 0} → (A → Type 0) → List A → Type 0
HasOne {A} P xs = (i : ℕ) × (x : A) × (slice_get xs i ≡ Some x) × P x

-- The transfer failed, on this lane, and its count rose from one number to another
pub record HasFailed (lane before after : ℕ) (done : Done) : Type 0 where
  pub failed : done.failed ≡ true
  pub lane_is : done.lane ≡ lane
  pub before_is : done.before ≡ before
  pub after_is : done.after ≡ after

abbrev pub WasRefusedFor : EventFault → Entry → Type 0
WasRefusedFor fault e = e.outcome ≡ Refused fault

-- Fewer sectors were free than were wanted, at a mount whose files have more blocks together than its device has sectors
pub record IsShort (m : MountView) (wanted found : ℕ) : Type 0 where
  pub fewer : found < wanted
  pub short : length m.pool.opening.numbers < m.pool.opening.cap

-- What a fault of a call with these own entries rests on: a device error on a transfer that came back failed, a cookie that is used up and want of space on a turn that was so refused, and want of space also on a device with fewer sectors than its files have blocks. Want of memory may come at any time, and no other fault comes
abbrev pub IsCaused : MountView → List Entry → Fault → Type 0
IsCaused m entries (Eio lane before after) = HasOne (HasFailed lane before after) (dones_in entries)
IsCaused m entries (Worn cookie) = HasOne (WasRefusedFor (refusal.Worn cookie)) entries
IsCaused m entries (NoSpace wanted found) = HasOne (WasRefusedFor (refusal.NoSpace wanted found)) entries × IsShort m wanted found
IsCaused m entries NoMemory = Unit {0}
IsCaused m entries _ = ⊥
