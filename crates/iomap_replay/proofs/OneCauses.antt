-- The causes of the faults of a run of one read.
use Rattle.std.proofs.Common.{◌≡◌, ℕ, ◌+◌, ◌≤◌, ◌==◌, Bool, true, false, not, ◌&&◌, ◌||◌, List, [], ◌∷◌, Option, Some, None, IfSome, if◌then◌else◌, map, nat_le, refl, sym, ap, ◌∙◌, arith, eq-eqb, subst}
use Rattle.std.proofs.lemmas.Bool.{le-leb, eqb-true, and_parts}
use Rattle.std.specs.Prelude.{IsTrue}
use Rattle.std.specs.List.{list_all, list_any}
use Rattle.std.specs.Option.{option_map}
use Rattle.fault_device.proofs.Distinct.{armed_among-later, distinct_later}
use Rattle.fault_device.specs.LaneView.{LaneView}
use Rattle.fault_device.specs.Opening.{Opening, Serves, bound_told, distinct, has_armed, is_fresh, is_fresh_told, may_fail_told, opening_of}
use Rattle.fault_device.specs.Ran.{RunsAsTold, armed_among, count_more}
use Rattle.fault_device.specs.Telling.{Telling}
use Rattle.iob_base.specs.Counts.{has_risen}
use Rattle.iob_base.specs.DeviceBlock.{DeviceBlock}
use Rattle.iob_base.specs.declared.answer.Fault.{Fault}
use Rattle.iob_base.specs.declared.answer.Fault.TheVariants.{Eio, SyncEio, Again, NoMemory, NotAligned, TooFar, NoSpace, Worn}
use Rattle.iob_base.specs.declared.answer.Reply.{Reply}
use Rattle.iob_base.specs.declared.answer.Reply.TheVariants.{Ok, Err}
use Rattle.iob_base.specs.declared.answer.Stop.TheVariants.{Whole, End}
use Rattle.iob_base.specs.declared.answer.Stop.TheVariants.{Fault as Short}
use Rattle.io_model.specs.Causes.{AreCaused, are_apart, distinct_of, distinct_to, fails_as_armed, fault_told, is_bounded, is_done_mark, is_in_sum, is_none_or, is_own_bound, is_own_rise, is_short_of_space, is_some_number, is_sync_rise, is_unworn, may_fail_as, onto_rises, seen_by_caller, some_may_fail, starts_at_zero}
use Rattle.io_model.specs.Journals.{each_block}
use Rattle.io_model.specs.Lists.{both_from, each_pair}
use Rattle.io_model.specs.declared.file.FileEnd.{FileEnd}
use Rattle.io_model.specs.declared.run.CallEnd.{CallEnd}
use Rattle.io_model.specs.declared.run.LaneEnd.{LaneEnd}
use Rattle.iomap_replay.specs.Causes.{IsCausedOn, IsCausedReply}
use Rattle.iomap_replay.specs.Jobs.{one_call, script_of_job}
use Rattle.iomap_replay.specs.OneRead.{is_read_fault}
use Rattle.iomap_replay.specs.Runs.{one_run}
use Rattle.iomap_replay.specs.Starts.{idle_end, start_over, starts_from, starts_of}
use Rattle.iomap_replay.specs.declared.job.Job.{Job}

-- a reply of a read that gave its range, or failed by a transfer or for want of memory
abbrev pub is_plain : Reply → Bool
is_plain (Ok _ Whole) = true
is_plain (Ok _ End) = true
is_plain (Ok _ (Short _)) = false
is_plain (Err fault _) = is_read_fault fault

-- a test of the fault of such a reply holds where it holds of each device error and of want of memory
each_told : (r : Reply) (test : Fault → Bool) (o : Opening) (lane faults : ℕ) → is_plain r ≡ true → IsCausedReply o lane faults r
    → ((named before now : ℕ) → IsCausedOn o lane faults named before now → test (Eio named before now) ≡ true) → test NoMemory ≡ true
    → is_none_or (fault_told r) test ≡ true
each_told (Ok n Whole) test o lane faults plain caused eio memory = refl
each_told (Ok n End) test o lane faults plain caused eio memory = refl
each_told (Ok n (Short fault)) test o lane faults plain caused eio memory = absurd (cc)
each_told (Err (Eio named before now) sent) test o lane faults plain caused eio memory = eio named before now caused
each_told (Err NoMemory sent) test o lane faults plain caused eio memory = memory
each_told (Err (SyncEio x y) sent) test o lane faults plain caused eio memory = absurd (cc)
each_told (Err (Again x) sent) test o lane faults plain caused eio memory = absurd (cc)
each_told (Err (NotAligned x) sent) test o lane faults plain caused eio memory = absurd (cc)
each_told (Err (TooFar x y) sent) test o lane faults plain caused eio memory = absurd (cc)
each_told (Err (NoSpace x y) sent) test o lane faults plain caused eio memory = absurd (cc)
each_told (Err (Worn x) sent) test o lane faults plain caused eio memory = absurd (cc)

-- one reply tells at most one rise
one_rise : (caller : ℕ) (told : Option Fault) → each_pair are_apart (onto_rises caller told []) ≡ true
one_rise caller None = refl
one_rise caller (Some (Eio named before now)) = refl
one_rise caller (Some (SyncEio x y)) = refl
one_rise caller (Some (Again x)) = refl
one_rise caller (Some NoMemory) = refl
one_rise caller (Some (NotAligned x)) = refl
one_rise caller (Some (TooFar x y)) = refl
one_rise caller (Some (NoSpace x y)) = refl
one_rise caller (Some (Worn x)) = refl

-- a lane's opening tells the same as the fate's
abbrev numbers_told : Option Telling → Option (List ℕ)
numbers_told told = option_map (λ (t : Telling). t.armed) told

may_fail-told : (told : Option Telling) → IsTrue (may_fail_told told) → may_fail_as (numbers_told told) ≡ true
may_fail-told None may = refl
may_fail-told (Some t) may = by_numbers t.armed may
  where
    by_numbers : (ns : List ℕ) → has_armed ns ≡ true → is_some_number ns ≡ true
    by_numbers [] is = cc
    by_numbers (n ∷ ns) is = refl

distinct_of-is : (ns : List ℕ) → distinct_of ns ≡ distinct ns
distinct_of-is [] = refl
distinct_of-is (n ∷ ns) = ap (λ k. (if list_any (λ m. m == n) ns then 0 else 1) + k) (distinct_of-is ns)

bounded-told : (fresh : Bool) (count : ℕ) (told : Option Telling) (now : ℕ) → IfSome (bound_told count told) (λ most. now ≤ most)
    → is_bounded (start_over fresh (opening_of count told)) now ≡ true
bounded-told fresh count None now within = refl
bounded-told fresh count (Some t) now within = le-leb _ _ (omega (arith, within, distinct_of-is t.armed))

-- a lane fails as its fate tells where a fresh fate has no number armed and counts nothing
fails-well : (fresh : Bool) (count : ℕ) (numbers : Option (List ℕ)) (end : LaneEnd)
    → (fresh ≡ true → (ns : List ℕ) → numbers ≡ Some ns → (ns ≡ []) × (end.faults ≡ 0))
    → fails_as_armed (record { count = count; armed = numbers; fresh = fresh }) end ≡ true
fails-well false count numbers end none = refl
fails-well true count None end none = refl
fails-well true count (Some ns) end none =
    let is = none refl ns refl in
    eq-eqb _ _ (is.1 ∙ sym (ap (distinct_to end.ops) is.0))

-- a fresh fate has no number armed, and counts nothing as long as it judges as it told
fresh_none : (count : ℕ) (told after : Option Telling) (now : ℕ) → IfSome told (λ t. (n : ℕ) × RunsAsTold n t count now after)
    → is_fresh (opening_of count told) ≡ true → (ns : List ℕ) → numbers_told told ≡ Some ns → (ns ≡ []) × (now ≡ 0)
fresh_none count None after now ran fresh ns is = absurd (cc)
fresh_none count (Some t) after now ran fresh ns is = by_numbers t.armed refl
  where
    parts : (count == 0 ≡ true) × (is_fresh_told (Some t) ≡ true)
    parts = and_parts _ _ fresh

    by_numbers : (ms : List ℕ) → t.armed ≡ ms → (ns ≡ []) × (now ≡ 0)
    by_numbers [] none =
        let numbers : ns ≡ [] = let both : Some t.armed ≡ Some ns = is in cc in
        let first : count ≡ 0 = eqb-true _ _ parts.0 in
        let few = armed_among-later ran.0 t in
        let L : List ℕ → ℕ = λ ms. distinct_later t.judged ms in
        let none_left : L t.armed ≡ 0 = ap L none in
        let failed : armed_among ran.0 t ≡ 0 = omega (arith, few, none_left) in
        (numbers, ran.1.counted ∙ ap (λ m. count_more m count) failed ∙ first)
    by_numbers (m ∷ ms) some =
        let T : List ℕ → Type 0 = λ ls. is_fresh_told (Some (record { judged = t.judged; armed = ls })) ≡ true in
        let wrong : is_fresh_told (Some (record { judged = t.judged; armed = m ∷ ms })) ≡ true = subst T some parts.1 in
        let never : false ≡ true = (and_parts (t.judged == 0) false wrong).1 in absurd (cc)

-- a lane that made no transfer fails as its fate tells
idle-well : (n : ℕ) (rest : List Opening) → both_from (λ i start end. fails_as_armed start end) n (starts_from [] n rest) (map (λ (o : Opening). idle_end o.count) rest) ≡ true
idle-well n [] = refl
idle-well n (o ∷ rest) =
    let here : fails_as_armed (start_over (is_fresh o) o) (idle_end o.count) ≡ true =
    fails-well (is_fresh o) o.count (numbers_told o.tells) (idle_end o.count)
    (λ fresh ns is. fresh_none o.count o.tells o.tells o.count (ran_not o.tells o.count) fresh ns is) in
    ap (λ (t : Bool). t && both_from (λ i start end. fails_as_armed start end) (n + 1) (starts_from [] (n + 1) rest) (map (λ (o : Opening). idle_end o.count) rest)) here
    ∙ idle-well (n + 1) rest
  where
    ran_not : (told : Option Telling) (count : ℕ) → IfSome told (λ t. (n : ℕ) × RunsAsTold n t count count told)
    ran_not None count = tt
    ran_not (Some t) count = (0, record { goes_on = refl; counted = refl })

or_true : (a b : Bool) → b ≡ true → a || b ≡ true
or_true true b is = refl
or_true false b is = is

-- the counts and the fate of the lane that made the transfer
pub record IsLaneEnd (o : Opening) (v : LaneView) (end : LaneEnd) : Type 0 where
  pub serves : Serves o v
  pub faults : end.faults ≡ v.count

-- every fault of a run of one read has its cause
pub one_cause : (name : List ℕ) (job : Job) (given : List (ℕ × List ℕ)) (end : CallEnd) (file : FileEnd) (free : List DeviceBlock) (own : LaneEnd) (o : Opening) (rest : List Opening) (v : LaneView)
    → is_plain end.answer.reply ≡ true → IsCausedReply o 0 own.faults end.answer.reply → IsLaneEnd o v own
    → each_block (λ f b block. list_all (λ st. is_done_mark st.mark) block.journal) (file ∷ []) ≡ true
    → AreCaused (starts_of (script_of_job name job given) (o ∷ rest)) (script_of_job name job given) (one_run end file free (own ∷ map (λ (o : Opening). idle_end o.count) rest))
one_cause name job given end file free own o rest v plain caused lane done =
    let script = script_of_job name job given in
    let call = one_call job.asked in
    let starts = starts_of script (o ∷ rest) in
    let lanes : List LaneEnd = own ∷ map (λ (o : Opening). idle_end o.count) rest in
    let told = fault_told end.answer.reply in
    let each : (test : Fault → Bool) → ((named before now : ℕ) → IsCausedOn o 0 own.faults named before now → test (Eio named before now) ≡ true) → test NoMemory ≡ true → is_none_or told test ≡ true =
    λ test eio memory. each_told end.answer.reply test o 0 own.faults plain caused eio memory in
    let alone : (t : Bool) → t ≡ true → t && true ≡ true = λ t is. ap (λ (t : Bool). t && true) is in
    record {
      own_lane = alone _ (each (is_own_rise starts lanes call) (λ named before now c. own_rise named before now c) refl);
      apart = one_rise 0 told;
      bounded = alone _ (each (is_own_bound starts call) (λ named before now c. own_bound named before now c) refl);
      syncs = alone _ (each (is_sync_rise (some_may_fail starts) (seen_by_caller 0 0 0 script.calls (end ∷ []))) (λ _ _ _ _. refl) refl);
      closes = refl;
      summed = or_true (not (list_all starts_at_zero starts)) _ (alone _ (alone _ (each (is_in_sum lanes) (λ _ _ _ _. refl) refl)));
      marks = or_true (some_may_fail starts) _ done;
      armed = ap (λ (t : Bool). t && both_from (λ i start end. fails_as_armed start end) 1 (starts_from [] 1 rest) (map (λ (o : Opening). idle_end o.count) rest))
          (fails-well (is_fresh o) o.count (numbers_told o.tells) own
          (λ fresh ns is. let none = fresh_none o.count o.tells v.tells v.count lane.serves.told fresh ns is in (none.0, lane.faults ∙ none.1)))
          ∙ idle-well 1 rest;
      unworn = alone _ (alone _ (each is_unworn (λ _ _ _ _. refl) refl));
      space = alone _ (alone _ (each (is_short_of_space script) (λ _ _ _ _. refl) refl));
    }
  where
    own_rise : (named before now : ℕ) → IsCausedOn o 0 own.faults named before now
        → is_own_rise (starts_of (script_of_job name job given) (o ∷ rest)) (own ∷ map (λ (o : Opening). idle_end o.count) rest) (one_call job.asked) (Eio named before now) ≡ true
    own_rise named before now c =
        let starts = starts_of (script_of_job name job given) (o ∷ rest) in
        let lanes : List LaneEnd = own ∷ map (λ (o : Opening). idle_end o.count) rest in
        let P : ℕ → Type 0 = λ n. is_own_rise starts lanes (one_call job.asked) (Eio n before now) ≡ true in
        let may : may_fail_as (numbers_told o.tells) ≡ true = may_fail-told o.tells c.may in
        let rose : has_risen before now ≡ true = le-leb _ _ c.rose in
        let counted : nat_le now own.faults ≡ true = le-leb _ _ c.counted in
        subst P (sym c.own) (ap (λ (t : Bool). t && (may_fail_as (numbers_told o.tells) && nat_le now own.faults)) rose
        ∙ ap (λ (t : Bool). t && nat_le now own.faults) may ∙ counted)

    own_bound : (named before now : ℕ) → IsCausedOn o 0 own.faults named before now
        → is_own_bound (starts_of (script_of_job name job given) (o ∷ rest)) (one_call job.asked) (Eio named before now) ≡ true
    own_bound named before now c =
        let starts = starts_of (script_of_job name job given) (o ∷ rest) in
        let P : ℕ → Type 0 = λ n. is_own_bound starts (one_call job.asked) (Eio n before now) ≡ true in
        subst P (sym c.own) (bounded-told (is_fresh o) o.count o.tells now c.bound)
