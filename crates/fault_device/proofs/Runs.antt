use Rattle.std.proofs.Common.{◌≡◌, ℕ, zero, suc, ◌+◌, Option, Some, None, IfSome, if◌then◌else◌, arith, refl, sym, ◌∙◌, ap, subst, zero-add, add_assoc}
use Rattle.std.proofs.Math.Nat.{suc-add}
use Rattle.iob_base.specs.Counts.{count_after}
use Rattle.fault_device.specs.LaneView.{LaneView}
use Rattle.fault_device.specs.Ran.{Ran, RunsAsTold, count_more, judged_more, armed_among}
use Rattle.fault_device.specs.Telling.{Telling, is_next_armed, judged_once}

pub count_more-append : (m n c : ℕ) → count_more (m + n) c ≡ count_more n (count_more m c)
count_more-append zero n c = rw zero-add
count_more-append (suc m) n c = rw suc-add (count_more-append m n (count_after c))

pub judged_more-append : (m n : ℕ) (t : Telling) → judged_more (m + n) t ≡ judged_more n (judged_more m t)
judged_more-append zero n t = rw zero-add
judged_more-append (suc m) n t = rw suc-add (judged_more-append m n (judged_once t))

pub armed_among-append : (m n : ℕ) (t : Telling) → armed_among (m + n) t ≡ armed_among m t + armed_among n (judged_more m t)
armed_among-append zero n t = rw (zero-add n) (sym (zero-add _))
armed_among-append (suc m) n t =
    rw suc-add (ap (λ k. (if is_next_armed t then 1 else 0) + k) (armed_among-append m n (judged_once t)) ∙ sym (add_assoc _ _ _))

-- two runs of judgements, one after the other
pub runs_more : (m n : ℕ) (t : Telling) (before mid now : ℕ) (u w : Option Telling) → RunsAsTold m t before mid u → IfSome u (λ v. RunsAsTold n v mid now w) → RunsAsTold (m + n) t before now w
runs_more m n t before mid now u w a b =
    let P : Option Telling → Type 0 = λ x. IfSome x (λ v. RunsAsTold n v mid now w) in
    let c : RunsAsTold n (judged_more m t) mid now w = subst P a.goes_on b in
    let more : ℕ = armed_among n (judged_more m t) in
    record {
      goes_on = c.goes_on ∙ sym (ap Some (judged_more-append m n t));
      counted = c.counted ∙ ap (count_more more) a.counted ∙ sym (count_more-append (armed_among m t) more before)
          ∙ ap (λ k. count_more k before) (sym (armed_among-append m n t));
    }

told_more : (m n : ℕ) (told : Option Telling) (before mid now : ℕ) (u w : Option Telling) → IfSome told (λ t. RunsAsTold m t before mid u) → IfSome u (λ v. RunsAsTold n v mid now w) → IfSome told (λ t. RunsAsTold (m + n) t before now w)
told_more m n None before mid now u w a b = tt
told_more m n (Some t) before mid now u w a b = runs_more m n t before mid now u w a b

-- a lane that made m judgements, and then n
pub ran_more : (m n : ℕ) (a b c : LaneView) → Ran m a b → Ran n b c → Ran (m + n) a c
ran_more m n a b c p q = record {
  number = q.number ∙ p.number;
  ops = q.ops ∙ ap (count_more n) p.ops ∙ sym (count_more-append m n a.ops);
  never_falls = omega (arith, p.never_falls, q.never_falls);
  told = told_more m n a.tells a.count b.count c.count b.tells c.tells p.told q.told;
}

told_none : (told : Option Telling) (count : ℕ) (u : Option Telling) → told ≡ u → IfSome told (λ t. RunsAsTold 0 t count count u)
told_none None count u e = tt
told_none (Some t) count u e = record { goes_on = sym e; counted = refl }

-- a lane that made none
pub ran_none : (v : LaneView) → Ran 0 v v
ran_none v = record { number = refl; ops = refl; never_falls = omega arith; told = told_none v.tells v.count v.tells refl }
