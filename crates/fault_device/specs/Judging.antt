use Rattle.std.specs.Prelude.{◌≡◌, ℕ, ◌/◌, ◌<◌, ◌≤◌, Bool, true, false, if◌then◌else◌, Option, Some, Result, is_ok, IfSome, ⊤}
use Rattle.iob_base.specs.Counts.{Rose, count_after}
use Rattle.fault_device.specs.Telling.{Telling, is_next_armed, judged_once, armed_more}
use Rattle.fault_device.specs.declared.fate.Verdict.{Verdict}
use Rattle.fault_device.specs.declared.fate.Verdict.TheVariants.{Done, Failed}

abbrev pub has_failed : Verdict → Bool
has_failed Done = false
has_failed (Failed _) = true

-- how many of so many blocks a transfer moves
abbrev pub landed_of : ℕ → Verdict → ℕ
landed_of blocks Done = blocks
landed_of blocks (Failed landed) = landed

-- a failure after half of the blocks, rounded down, where it is to fail
abbrev pub half_where : Bool → ℕ → Verdict
half_where true blocks = Failed (blocks / 2)
half_where false blocks = Done

-- a failure leaves blocks unmoved, and the count rose from before to now
abbrev pub IsCaused : ℕ → Verdict → ℕ → ℕ → Type 0
IsCaused blocks Done before now = ⊤
IsCaused blocks (Failed landed) before now = (landed < blocks) × Rose before now

-- a count of faults does not fall in a judgement, and a failure comes only where it rose
pub record HasJudged (blocks before : ℕ) (verdict : Verdict) (now : ℕ) : Type 0 where
  pub never_falls : before ≤ now
  pub caused : IsCaused blocks verdict before now

-- a fate that told t judged as it told: it failed exactly where the number was armed, and the count
-- rose by one there and nowhere else
pub record JudgesAsTold (t : Telling) (before : ℕ) (verdict : Verdict) (now : ℕ) (after : Option Telling) : Type 0 where
  pub goes_on : after ≡ Some (judged_once t)
  pub failed : has_failed verdict ≡ is_next_armed t
  pub counted : now ≡ (if is_next_armed t then count_after before else before)

abbrev pub JudgesTold : ℕ → Option Telling → Verdict → ℕ → Option Telling → Type 0
JudgesTold before old verdict now after = IfSome old (λ t. JudgesAsTold t before verdict now after)

-- a fate that told t has the number armed, or is as it was after an error; its count stays
pub record ArmsAsTold {E : Type 0} (t : Telling) (op before : ℕ) (result : Result (Unit {0}) E) (now : ℕ) (after : Option Telling) : Type 0 where
  pub goes_on : after ≡ Some (if is_ok result then armed_more t op else t)
  pub counted : now ≡ before

abbrev pub ArmsTold : {E : Type 0} → ℕ → ℕ → Option Telling → Result (Unit {0}) E → ℕ → Option Telling → Type 0
ArmsTold op before old result now after = IfSome old (λ t. ArmsAsTold t op before result now after)
