use Rattle.std.specs.Prelude.{◌≡◌, ℕ, zero, suc, ◌+◌, ◌≤◌, if◌then◌else◌, Option, Some, IfSome}
use Rattle.iob_base.specs.Counts.{count_after}
use Rattle.fault_device.specs.LaneView.{LaneView}
use Rattle.fault_device.specs.Telling.{Telling, is_next_armed, judged_once}

-- a count after n more
abbrev pub count_more : ℕ → ℕ → ℕ
count_more zero count = count
count_more (suc n) count = count_more n (count_after count)

-- a fate after n more judgements
abbrev pub judged_more : ℕ → Telling → Telling
judged_more zero t = t
judged_more (suc n) t = judged_more n (judged_once t)

-- how many of the next n judgements are to fail
abbrev pub armed_among : ℕ → Telling → ℕ
armed_among zero t = 0
armed_among (suc n) t = (if is_next_armed t then 1 else 0) + armed_among n (judged_once t)

-- a fate that told t judged n times, as it told: the count rose once for each armed number met
pub record RunsAsTold (n : ℕ) (t : Telling) (before now : ℕ) (after : Option Telling) : Type 0 where
  pub goes_on : after ≡ Some (judged_more n t)
  pub counted : now ≡ count_more (armed_among n t) before

-- a lane made n judgements: its number stays, its count of faults does not fall
pub record Ran (n : ℕ) (old new : LaneView) : Type 0 where
  pub number : new.number ≡ old.number
  pub ops : new.ops ≡ count_more n old.ops
  pub never_falls : old.count ≤ new.count
  pub told : IfSome old.tells (λ t. RunsAsTold n t old.count new.count new.tells)
