-- What the judge of a transfer inside an event was asked.
use Rattle.std.specs.Prelude.{◌≡◌, ℕ, Bool, true, false, Option, Some, None, Result, Ok, Err, IsTrue}
use Rattle.fault_device.specs.LaneView.{LaneView}
use Rattle.fault_device.specs.Opening.{IsServed, Opening, Serves}
use Rattle.fault_device.specs.Transfer.{Tells}
use Rattle.fault_device.specs.declared.lane.Done.{Done}
use Rattle.range_core.specs.declared.fault.EventFault.{EventFault}
use Rattle.range_core.specs.declared.fault.EventFault.TheVariants.{NoMemory, Poison}

-- a judge was asked nothing and is as it was, or it was asked once, of n blocks, and gave this answer
abbrev pub IsAsked : {J : Type 0} → (J → ℕ → Done → J → Type 0) → ℕ → J → J → Option Done → Type 0
IsAsked step n was now None = now ≡ was
IsAsked step n was now (Some done) = step was n done now

-- A judge was asked at most once, and of n blocks
pub record Judges {J : Type 0} (step : J → ℕ → Done → J → Type 0) (n : ℕ) (was now : J) : Type 0 where
  pub answer : Option Done
  pub is_asked : IsAsked step n was now answer

-- one judgement of blocks that are mapped, which tells whether it failed, and none of others
abbrev pub AskedNow : Bool → (Done → Type 0) → Type 0 → Result (Unit {0}) Done → Type 0
AskedNow true told same (Ok _) = (done : Done) × (done.failed ≡ false) × told done
AskedNow true told same (Err done) = (done.failed ≡ true) × told done
AskedNow false told same (Ok _) = same
AskedNow false told same (Err done) = ⊥

-- what a judge answered to an event that came about: where blocks are mapped, that the transfer did not fail; elsewhere it was asked nothing
abbrev pub Passes : Bool → Option Done → Type 0
Passes true None = ⊥
Passes true (Some done) = done.failed ≡ false
Passes false answer = answer ≡ None

-- why an event did not come about: for what hinders it; else for want of memory, before any judgement; else for a judgement of mapped blocks, which failed
abbrev pub RefusesNow : Option EventFault → Bool → Option Done → EventFault → Type 0
RefusesNow (Some fault) mapped answer e = (e ≡ fault) × (answer ≡ None)
RefusesNow None mapped answer NoMemory = answer ≡ None
RefusesNow None mapped answer (Poison done) = IsTrue mapped × (done.failed ≡ true) × (answer ≡ Some done)
RefusesNow None mapped answer _ = ⊥

-- One judgement of n blocks that a lane made: what it tells of the lane's count, its number of judgements and its fate, and that the lane still stands over the fate that it was opened with
pub record AsksLane (was : LaneView) (n : ℕ) (done : Done) (now : LaneView) : Type 0 where
  pub tells : Tells n was done now
  pub serves : (o : Opening) → Serves o was → IsServed o done now
