use Rattle.std.proofs.Common.{◌≡◌, ℕ, zero, suc, ◌+◌, ◌≤◌, Bool, true, ◌==◌, IsTrue, List, [], ◌∷◌, Option, Some, None, IfSome, arith, refl, sym, ◌∙◌, ap, subst}
use Rattle.std.proofs.lemmas.Bool.{and_parts}
use Rattle.std.specs.List.{list_any}
use Rattle.iob_base.specs.Counts.{count_after}
use Rattle.fault_device.specs.LaneView.{LaneView}
use Rattle.fault_device.specs.Opening.{Opening, Opens, Serves, IsServed, fault_bound, bound_told, may_fail_told, has_armed}
use Rattle.fault_device.specs.Ran.{Ran, RunsAsTold, count_more, judged_more, armed_among}
use Rattle.fault_device.specs.Telling.{Telling, is_next_armed, judged_once}
use Rattle.fault_device.specs.Transfer.{Tells}
use Rattle.fault_device.specs.declared.lane.Done.{Done}
use Rattle.fault_device.proofs.Distinct.{distinct_later-within, armed_among-later}
use Rattle.fault_device.proofs.Runs.{runs_more}

told_after : (n : ℕ) (told : Option Telling) (before mid now : ℕ) (u w : Option Telling) → IfSome told (λ t. (m : ℕ) × RunsAsTold m t before mid u) → IfSome u (λ v. RunsAsTold n v mid now w) → IfSome told (λ t. (m : ℕ) × RunsAsTold m t before now w)
told_after n None before mid now u w a b = tt
told_after n (Some t) before mid now u w a b = (a.0 + n, runs_more a.0 n t before mid now u w a.1 b)

-- what serves an opening goes on to do so
pub serves_on : (n : ℕ) (o : Opening) (old new : LaneView) → Serves o old → Ran n old new → Serves o new
serves_on n o old new s r = record {
  never_falls = omega (arith, s.never_falls, r.never_falls);
  told = told_after n o.tells o.count old.count new.count old.tells new.tells s.told r.told;
}

judged_more-armed : (n : ℕ) (t : Telling) → (judged_more n t).armed ≡ t.armed
judged_more-armed zero t = refl
judged_more-armed (suc n) t = judged_more-armed n (judged_once t)

any_armed : (p : ℕ → Bool) (xs : List ℕ) → list_any p xs ≡ true → has_armed xs ≡ true
any_armed p [] e = cc
any_armed p (x ∷ xs) e = refl

-- a judgement of a fate that was so opened fails only where that may fail
may_fail_if : (told : Option Telling) (before now : ℕ) (u : Option Telling) (failed : Bool) → IfSome told (λ t. (m : ℕ) × RunsAsTold m t before now u) → IfSome u (λ t. failed ≡ is_next_armed t) → failed ≡ true → IsTrue (may_fail_told told)
may_fail_if None before now u failed a b e = refl
may_fail_if (Some t) before now u failed a b e =
    let P : Option Telling → Type 0 = λ x. IfSome x (λ v. failed ≡ is_next_armed v) in
    let here : failed ≡ is_next_armed (judged_more a.0 t) = subst P a.1.goes_on b in
    let next : ℕ = (judged_more a.0 t).judged + 1 in
    let armed : list_any (λ number. number == next) (judged_more a.0 t).armed ≡ true = (and_parts _ _ (sym here ∙ e)).1 in
    any_armed (λ number. number == next) t.armed (ap (list_any (λ number. number == next)) (sym (judged_more-armed a.0 t)) ∙ armed)

count_more-within : (n c : ℕ) → count_more n c ≤ c + n
count_more-within zero c = omega arith
count_more-within (suc n) c = omega (arith, count_more-within n (count_after c))

-- the count of a fate that was so opened stays within the bound
bound_after : (told : Option Telling) (before now : ℕ) (u : Option Telling) → IfSome told (λ t. (m : ℕ) × RunsAsTold m t before now u) → IfSome (bound_told before told) (λ most. now ≤ most)
bound_after None before now u a = tt
bound_after (Some t) before now u a =
    omega (arith, a.1.counted, count_more-within (armed_among a.0 t) before, armed_among-later a.0 t, distinct_later-within t.judged t.armed)

-- a transfer of a lane that serves an opening
pub served : (n : ℕ) (o : Opening) (old new : LaneView) (done : Done) → Tells n old done new → Serves o old → IsServed o done new
served n o old new done t s = record {
  still = serves_on 1 o old new s t.ran;
  may = may_fail_if o.tells o.count old.count old.tells done.failed s.told t.told;
  bound = let P : ℕ → Type 0 = λ n. IfSome (fault_bound o) (λ most. n ≤ most) in
      subst P (sym t.after) (bound_after o.tells o.count new.count new.tells (serves_on 1 o old new s t.ran).told);
}

told_first : (told : Option Telling) (before : ℕ) (now : ℕ) (u : Option Telling) → IfSome told (λ t. (u ≡ Some t) × (now ≡ before)) → IfSome told (λ t. (m : ℕ) × RunsAsTold m t before now u)
told_first None before now u h = tt
told_first (Some t) before now u h = (0, record { goes_on = h.0; counted = h.1 })

-- a lane that stands over a fate as it was opened serves it
pub opens_serves : (o : Opening) (v : LaneView) → Opens o v → Serves o v
opens_serves o v h = record { never_falls = h.never_falls; told = told_first o.tells o.count v.count v.tells h.told }
