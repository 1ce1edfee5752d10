use Rattle.std.specs.Prelude.{◌≡◌, ℕ, ◌≤◌, IfSome, ⊤}
use Rattle.iob_base.specs.Counts.{Rose}
use Rattle.iob_base.specs.declared.answer.Fault.{Fault}
use Rattle.iob_base.specs.declared.answer.Fault.TheVariants.{Eio, SyncEio, Again, NoMemory, NotAligned, TooFar, NoSpace, Worn}
use Rattle.iob_base.specs.declared.answer.Reply.{Reply}
use Rattle.iob_base.specs.declared.answer.Reply.TheVariants.{Ok, Err}
use Rattle.iob_base.specs.declared.answer.Stop.{Stop}
use Rattle.iob_base.specs.declared.answer.Stop.TheVariants.{Whole, End}
use Rattle.iob_base.specs.declared.answer.Stop.TheVariants.{Fault as Short}
use Rattle.fault_device.specs.Opening.{Opening, MayFail, fault_bound}

-- a device error of a lane that now counts so many faults: the lane's count rose, to no more than these, its
-- fate may fail, and the count is within the bound where the fate tells one
pub record IsCausedOn (o : Opening) (lane faults named before after : ℕ) : Type 0 where
  pub own : named ≡ lane
  pub rose : Rose before after
  pub counted : after ≤ faults
  pub may : MayFail o
  pub bound : IfSome (fault_bound o) (λ most. after ≤ most)

-- a fault that a call may answer whose transfers go by this lane, which now counts so many faults
abbrev pub IsCausedFault : Opening → ℕ → ℕ → Fault → Type 0
IsCausedFault o lane faults (Eio named before after) = IsCausedOn o lane faults named before after
IsCausedFault o lane faults (SyncEio _ _) = ⊥
IsCausedFault o lane faults (Again _) = ⊥
IsCausedFault o lane faults NoMemory = ⊤
IsCausedFault o lane faults (NotAligned _) = ⊤
IsCausedFault o lane faults (TooFar _ _) = ⊤
IsCausedFault o lane faults (NoSpace _ _) = ⊤
IsCausedFault o lane faults (Worn _) = ⊥

abbrev pub IsCausedStop : Opening → ℕ → ℕ → Stop → Type 0
IsCausedStop o lane faults Whole = ⊤
IsCausedStop o lane faults End = ⊤
IsCausedStop o lane faults (Short fault) = IsCausedFault o lane faults fault

abbrev pub IsCausedReply : Opening → ℕ → ℕ → Reply → Type 0
IsCausedReply o lane faults (Ok _ stop) = IsCausedStop o lane faults stop
IsCausedReply o lane faults (Err fault _) = IsCausedFault o lane faults fault
