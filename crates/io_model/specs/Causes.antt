use Rattle.std.specs.Prelude.{ℕ, zero, suc, Bool, true, false, not, ◌&&◌, ◌||◌, ◌==◌, nat_le, nat_lt, ◌+◌, ◌-◌, max, List, [], ◌∷◌, Option, Some, None, slice_get, if◌then◌else◌, IsTrue}
use Rattle.std.specs.List.{list_all, list_any}
use Rattle.iob_base.specs.Counts.{has_risen}
use Rattle.iob_base.specs.declared.answer.Fault.{Fault}
use Rattle.iob_base.specs.declared.answer.Fault.TheVariants.{Eio, SyncEio, NoSpace, Worn}
use Rattle.iob_base.specs.declared.answer.Reply.{Reply}
use Rattle.iob_base.specs.declared.answer.Reply.TheVariants.{Ok, Err}
use Rattle.iob_base.specs.declared.answer.Stop.{Stop}
use Rattle.iob_base.specs.declared.answer.Stop.TheVariants.{Whole, End}
use Rattle.iob_base.specs.declared.answer.Stop.TheVariants.{Fault as Short}
use Rattle.iob_base.specs.declared.stamp.Mark.{Mark}
use Rattle.iob_base.specs.declared.stamp.Mark.TheVariants.{Done}
use Rattle.io_model.specs.Journals.{each_block}
use Rattle.io_model.specs.Lists.{both_from, each_pair, is_some_and}
use Rattle.io_model.specs.declared.file.FileSpec.{FileSpec}
use Rattle.io_model.specs.declared.run.CallEnd.{CallEnd}
use Rattle.io_model.specs.declared.run.LaneEnd.{LaneEnd}
use Rattle.io_model.specs.declared.run.Run.{Run}
use Rattle.io_model.specs.declared.script.Call.{Call}
use Rattle.io_model.specs.declared.script.Script.{Script}

-- a lane before the first call, once the fault lines are armed: the faults that its fate counts, the
-- numbers that are armed where the fate tells them, and whether it told a fate without any past
pub record LaneStart : Type 0 where
  pub count : ℕ
  pub armed : Option (List ℕ)
  pub fresh : Bool

abbrev pub is_some_number : List ℕ → Bool
is_some_number [] = false
is_some_number (n ∷ ns) = true

-- a lane may fail: its fate tells nothing, or has an armed number
abbrev pub may_fail_as : Option (List ℕ) → Bool
may_fail_as None = true
may_fail_as (Some armed) = is_some_number armed

abbrev pub may_fail : LaneStart → Bool
may_fail start = may_fail_as start.armed

abbrev pub some_may_fail : List LaneStart → Bool
some_may_fail starts = list_any may_fail starts

-- how many different numbers at most so great a list has
abbrev pub distinct_to : ℕ → List ℕ → ℕ
distinct_to most [] = 0
distinct_to most (n ∷ ns) = (if nat_le n most && not (list_any (λ m. m == n) ns) then 1 else 0) + distinct_to most ns

-- how many different numbers a list has
abbrev pub distinct_of : List ℕ → ℕ
distinct_of [] = 0
distinct_of (n ∷ ns) = (if list_any (λ m. m == n) ns then 0 else 1) + distinct_of ns

-- a count of faults is within what a lane may come to, where its fate tells that
abbrev pub is_bounded : LaneStart → ℕ → Bool
is_bounded start now = is_within start.armed start.count
  where
    is_within : Option (List ℕ) → ℕ → Bool
    is_within None count = true
    is_within (Some armed) count = nat_le now (count + distinct_of armed)

abbrev pub fault_in : Stop → Option Fault
fault_in Whole = None
fault_in End = None
fault_in (Short fault) = Some fault

-- the fault that a reply tells
abbrev pub fault_told : Reply → Option Fault
fault_told (Ok _ stop) = fault_in stop
fault_told (Err fault _) = Some fault

-- a test of the fault of a reply that tells one
abbrev pub is_none_or : Option Fault → (Fault → Bool) → Bool
is_none_or None test = true
is_none_or (Some fault) test = test fault

-- a test of each call that tells a fault, and of it
abbrev pub each_fault : (Call → Fault → Bool) → List Call → List CallEnd → Bool
each_fault test calls ends = both_from (λ n call end. is_none_or (fault_told end.answer.reply) (test call)) 1 calls ends

-- a device error names the lane of its caller, whose count rose to at most the faults printed for it, and which may fail
abbrev pub is_own_rise : List LaneStart → List LaneEnd → Call → Fault → Bool
is_own_rise starts lanes call (Eio lane before now) =
    lane == call.caller && (has_risen before now
    && (is_some_and (slice_get starts lane) may_fail && is_some_and (slice_get lanes lane) (λ end. nat_le now end.faults)))
is_own_rise starts lanes call _ = true

-- a device error is within the bound of its lane
abbrev pub is_own_bound : List LaneStart → Call → Fault → Bool
is_own_bound starts call (Eio lane before now) = is_some_and (slice_get starts lane) (λ start. is_bounded start now)
is_own_bound starts call _ = true

-- what a caller's device error says of its lane: the counts before and after
pub record Rise : Type 0 where
  pub caller : ℕ
  pub before : ℕ
  pub now : ℕ

abbrev pub onto_rises : ℕ → Option Fault → List Rise → List Rise
onto_rises caller (Some (Eio lane before now)) rises = record { caller = caller; before = before; now = now } ∷ rises
onto_rises caller _ rises = rises

abbrev pub rises_of : List Call → List CallEnd → List Rise
rises_of [] ends = []
rises_of (call ∷ calls) [] = []
rises_of (call ∷ calls) (end ∷ ends) = onto_rises call.caller (fault_told end.answer.reply) (rises_of calls ends)

-- the greatest count of failed writebacks told to a caller of a file by the calls before one, and by all calls to anyone
abbrev pub told_in : Option Fault → ℕ
told_in (Some (SyncEio seen count)) = count
told_in _ = 0

abbrev pub seen_by_caller : ℕ → ℕ → ℕ → List Call → List CallEnd → ℕ
seen_by_caller zero caller file calls ends = 0
seen_by_caller (suc n) caller file [] ends = 0
seen_by_caller (suc n) caller file (call ∷ calls) [] = 0
seen_by_caller (suc n) caller file (call ∷ calls) (end ∷ ends) =
    max (if call.caller == caller && call.file.0 == file then told_in (fault_told end.answer.reply) else 0) (seen_by_caller n caller file calls ends)

abbrev pub seen_by_all : ℕ → List Call → List CallEnd → ℕ
seen_by_all file [] ends = 0
seen_by_all file (call ∷ calls) [] = 0
seen_by_all file (call ∷ calls) (end ∷ ends) =
    max (if call.file.0 == file then told_in (fault_told end.answer.reply) else 0) (seen_by_all file calls ends)

-- a sync error tells a count that rose over the one seen before, and some lane may fail
abbrev pub is_sync_rise : Bool → ℕ → Fault → Bool
is_sync_rise may seen (SyncEio told count) = told == seen && (has_risen told count && may)
is_sync_rise may seen _ = true

abbrev pub sum_of_faults : List LaneEnd → ℕ
sum_of_faults [] = 0
sum_of_faults (lane ∷ lanes) = lane.faults + sum_of_faults lanes

abbrev pub starts_at_zero : LaneStart → Bool
starts_at_zero start = start.count == 0

-- a sync error counts no more failures than all lanes had
abbrev pub is_in_sum : List LaneEnd → Fault → Bool
is_in_sum lanes (SyncEio seen count) = nat_le count (sum_of_faults lanes)
is_in_sum lanes _ = true

abbrev pub is_done_mark : Mark → Bool
is_done_mark Done = true
is_done_mark _ = false

abbrev pub is_unworn : Fault → Bool
is_unworn (Worn _) = false
is_unworn _ = true

abbrev pub all_blocks : List FileSpec → ℕ
all_blocks [] = 0
all_blocks (file ∷ files) = file.blocks + all_blocks files

-- want of space tells that less was found than was wanted, and comes only where the files have more blocks than the device
abbrev pub is_short_of_space : Script → Fault → Bool
is_short_of_space script (NoSpace wanted found) = nat_lt found wanted && nat_lt script.device_blocks (all_blocks script.files)
is_short_of_space script _ = true

-- a lane whose fate was fresh had as many faults as numbers were armed that its transfers came to
abbrev pub fails_as_armed : LaneStart → LaneEnd → Bool
fails_as_armed start end = fails_as start.fresh start.armed
  where
    fails_as : Bool → Option (List ℕ) → Bool
    fails_as true (Some armed) = end.faults == distinct_to end.ops armed
    fails_as _ _ = true

-- of two device errors of one caller the later begins where the earlier ended, or later
abbrev pub are_apart : Rise → Rise → Bool
are_apart rise later = not (rise.caller == later.caller) || nat_le rise.now later.before

-- a test of the fault of each reply that tells one, of calls and of closes
abbrev pub every_fault : (Fault → Bool) → Run → Bool
every_fault test run =
    list_all (λ end. is_none_or (fault_told end.answer.reply) test) run.calls && list_all (λ close. is_none_or (fault_told close.reply) test) run.closes

abbrev pub is_sync_cause : List LaneStart → Script → Run → ℕ → Call → CallEnd → Bool
is_sync_cause starts script run n call end =
    is_none_or (fault_told end.answer.reply) (is_sync_rise (some_may_fail starts) (seen_by_caller (n - 1) call.caller call.file.0 script.calls run.calls))

abbrev pub is_close_cause : List LaneStart → Script → Run → ℕ → Reply → Bool
is_close_cause starts script run f reply = is_none_or (fault_told reply) (is_sync_rise (some_may_fail starts) (seen_by_all f script.calls run.calls))

-- every fault that a run tells has its cause: device errors of calls are their own lane's, one cause for
-- one reply, within the lane's bound; sync errors of calls and of closes count failures that were; marks
-- of failure and the faults of lanes follow what is armed; no cookie is worn; and want of space is true
pub record AreCaused (starts : List LaneStart) (script : Script) (run : Run) : Type 0 where
  pub own_lane : IsTrue (each_fault (is_own_rise starts run.lanes) script.calls run.calls)
  pub apart : IsTrue (each_pair are_apart (rises_of script.calls run.calls))
  pub bounded : IsTrue (each_fault (is_own_bound starts) script.calls run.calls)
  pub syncs : IsTrue (both_from (is_sync_cause starts script run) 1 script.calls run.calls)
  pub closes : IsTrue (both_from (λ f file close. is_close_cause starts script run f close.reply) 0 script.files run.closes)
  pub summed : IsTrue (not (list_all starts_at_zero starts) || every_fault (is_in_sum run.lanes) run)
  pub marks : IsTrue (some_may_fail starts || each_block (λ f b block. list_all (λ st. is_done_mark st.mark) block.journal) run.ends.files)
  pub armed : IsTrue (both_from (λ n start end. fails_as_armed start end) 0 starts run.lanes)
  pub unworn : IsTrue (every_fault is_unworn run)
  pub space : IsTrue (every_fault (is_short_of_space script) run)
