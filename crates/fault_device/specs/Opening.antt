use Rattle.std.specs.Prelude.{◌≡◌, ℕ, ◌+◌, ◌≤◌, Bool, true, false, ◌==◌, ◌&&◌, if◌then◌else◌, Option, Some, None, List, [], ◌∷◌, IfSome, IsTrue}
use Rattle.std.specs.List.{list_any}
use Rattle.fault_device.specs.LaneView.{LaneView}
use Rattle.fault_device.specs.Ran.{RunsAsTold}
use Rattle.fault_device.specs.Telling.{Telling, armed_more}
use Rattle.fault_device.specs.declared.lane.Done.{Done}

-- a fate before the first judgement that is counted here: its count, and what it tells
pub record Opening : Type 0 where
  pub count : ℕ
  pub tells : Option Telling

abbrev pub opening_of : ℕ → Option Telling → Opening
opening_of count tells = record { count = count; tells = tells }

-- how many different numbers a list has
abbrev pub distinct : List ℕ → ℕ
distinct [] = 0
distinct (x ∷ xs) = (if list_any (λ y. y == x) xs then 0 else 1) + distinct xs

abbrev pub has_armed : List ℕ → Bool
has_armed [] = false
has_armed (_ ∷ _) = true

-- a lane over such a fate may fail: the fate tells nothing, or has an armed number
abbrev pub may_fail_told : Option Telling → Bool
may_fail_told None = true
may_fail_told (Some t) = has_armed t.armed

abbrev pub may_fail : Opening → Bool
may_fail o = may_fail_told o.tells

abbrev pub MayFail : Opening → Type 0
MayFail o = IsTrue (may_fail o)

-- the count of faults that a lane over such a fate never passes, where the fate tells its armed numbers
abbrev pub bound_told : ℕ → Option Telling → Option ℕ
bound_told count None = None
bound_told count (Some t) = Some (count + distinct t.armed)

abbrev pub fault_bound : Opening → Option ℕ
fault_bound o = bound_told o.count o.tells

-- a fate that tells both, made no judgement, has none armed and counts none
abbrev pub is_fresh_told : Option Telling → Bool
is_fresh_told None = false
is_fresh_told (Some t) = t.judged == 0 && is_empty t.armed
  where
    is_empty : List ℕ → Bool
    is_empty [] = true
    is_empty (_ ∷ _) = false

abbrev pub is_fresh : Opening → Bool
is_fresh o = o.count == 0 && is_fresh_told o.tells

abbrev pub IsFresh : Opening → Type 0
IsFresh o = IsTrue (is_fresh o)

-- an opening with one more number armed
abbrev pub told_with : ℕ → Option Telling → Option Telling
told_with op None = None
told_with op (Some t) = Some (armed_more t op)

abbrev pub opening_with : Opening → ℕ → Opening
opening_with o op = record o { tells = told_with op o.tells }

-- the lane stands over a fate as it was opened
pub record Opens (o : Opening) (v : LaneView) : Type 0 where
  pub never_falls : o.count ≤ v.count
  pub told : IfSome o.tells (λ t. (v.tells ≡ Some t) × (v.count ≡ o.count))

-- the lane stands over a fate that was so opened, and has judged since
pub record Serves (o : Opening) (v : LaneView) : Type 0 where
  pub never_falls : o.count ≤ v.count
  pub told : IfSome o.tells (λ t. (n : ℕ) × RunsAsTold n t o.count v.count v.tells)

-- a transfer of a lane over a fate that was so opened: it failed only where that may fail, and the
-- count after it is within the bound
pub record IsServed (o : Opening) (done : Done) (new : LaneView) : Type 0 where
  pub still : Serves o new
  pub may : done.failed ≡ true → MayFail o
  pub bound : IfSome (fault_bound o) (λ most. done.after ≤ most)
