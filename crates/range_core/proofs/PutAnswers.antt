-- What came of bytes written straight into sectors, from what came of the sectors reserved for holes and of the judgement.
use Rattle.std.proofs.Common.{◌≡◌, ℕ, Bool, true, false, Option, Some, None, refl, sym, subst}
use Rattle.fault_device.specs.declared.lane.Done.{Done}
use Rattle.space_pool.specs.Pool.{PoolView}
use Rattle.range_core.specs.DaxPools.{HoldsHoles, LosesHoles}
use Rattle.range_core.specs.DaxPuts.{LeavesPut, RefusesPut}
use Rattle.range_core.specs.Judges.{Judges, Passes}
use Rattle.range_core.specs.PoolTurns.{PoolPlace, at_seat, place_of}
use Rattle.range_core.specs.RangeView.{RangeView}
use Rattle.range_core.specs.Refusals.{where_true}
use Rattle.range_core.specs.declared.fault.EventFault.{EventFault}
use Rattle.range_core.specs.declared.fault.EventFault.TheVariants as fault

-- what hinders a write is its refusal, before any judgement
pub put_refused_for : (holes : ℕ) (refusal : Option EventFault) (e : EventFault) → refusal ≡ Some e → RefusesPut holes refusal None e
put_refused_for holes refusal e is = let R : Option EventFault → Type 0 = λ o. RefusesPut holes o None e in subst R (sym is) (refl, refl)

-- and so is want of memory, where nothing hinders it
pub put_starved : (holes : ℕ) (refusal : Option EventFault) → refusal ≡ None → RefusesPut holes refusal None fault.NoMemory
put_starved holes refusal none = let R : Option EventFault → Type 0 = λ o. RefusesPut holes o None fault.NoMemory in subst R (sym none) refl

-- what hinders a write before any turn at the pool leaves the range as it was
pub put_stays : (pool : PoolView) (holes : ℕ) (r : RangeView) (t : Bool) (why e : EventFault) (o : Option EventFault) → o ≡ where_true t why → o ≡ Some e → LeavesPut pool holes why r r → LeavesPut pool holes e r r
put_stays pool holes r true why e o is some left =
    let P : EventFault → Type 0 = λ f. LeavesPut pool holes f r r in
    let same : why ≡ e = cc in
    subst P same left
put_stays pool holes r false why e o is some left = absurd (cc)

module _ {J : Type 0} (step : J → ℕ → Done → J → Type 0) (k n : ℕ) (was now : J) (pool : PoolView) (before after : PoolPlace) where
  -- sectors for the holes are held, and the judgement did not fail
  pub put_held : (holes : ℕ) → k ≡ n → HoldsHoles pool holes (λ done. step was k done now) before after → (j : Judges step n was now) × Passes true j.answer
  put_held holes many held =
      let T : ℕ → Type 0 = λ m. step was m held.done now in
      (record { answer = Some held.done; is_asked = subst T many held.judged }, held.passed)

  -- there were too few sectors, or the judgement failed
  pub put_lost : (holes met : ℕ) (refusal : Option EventFault) (e : EventFault) → k ≡ n → holes ≡ met → refusal ≡ None → LosesHoles pool holes (λ done. step was k done now) (now ≡ was) before after e → (j : Judges step n was now) × RefusesPut met refusal j.answer e
  put_lost holes met refusal e many same none lost =
      let A : ℕ → Type 0 = λ m. LosesHoles pool m (λ done. step was k done now) (now ≡ was) before after e in
      let B : ℕ → Type 0 = λ m. LosesHoles pool met (λ done. step was m done now) (now ≡ was) before after e in
      let R : Option EventFault → Type 0 = λ o. (j : Judges step n was now) × RefusesPut met o j.answer e in
      subst R (sym none) (at e (subst B many (subst A same lost)))
    where
      at : (e : EventFault) → LosesHoles pool met (λ done. step was n done now) (now ≡ was) before after e → (j : Judges step n was now) × RefusesPut met None j.answer e
      at (fault.Stale a b) lost = absurd lost
      at (fault.Away a b) lost = absurd lost
      at (fault.Cold a) lost = absurd lost
      at (fault.Settled a) lost = absurd lost
      at (fault.Unattached a) lost = absurd lost
      at (fault.Dirty a) lost = absurd lost
      at (fault.Worn a) lost = absurd lost
      at fault.NoMemory lost = absurd lost
      at (fault.NoSpace wanted found) lost = (record { answer = None; is_asked = lost.3 }, (lost.1, lost.2, refl))
      at (fault.Poison done) lost = (record { answer = Some done; is_asked = lost.1 }, (lost.0, refl))

-- and the range is as it was, but for its seat
pub put_left : (pool : PoolView) (holes met : ℕ) (told : Done → Type 0) (same : Type 0) (e : EventFault) (before after : RangeView) → holes ≡ met → after ≡ at_seat before after.seat → LosesHoles pool holes told same (place_of before) (place_of after) e → LeavesPut pool met e before after
put_left pool holes met told same e before after many is lost = at e (subst A many lost)
  where
    A : ℕ → Type 0
    A m = LosesHoles pool m told same (place_of before) (place_of after) e

    at : (e : EventFault) → LosesHoles pool met told same (place_of before) (place_of after) e → LeavesPut pool met e before after
    at (fault.Stale a b) lost = absurd lost
    at (fault.Away a b) lost = absurd lost
    at (fault.Cold a) lost = absurd lost
    at (fault.Settled a) lost = absurd lost
    at (fault.Unattached a) lost = absurd lost
    at (fault.Dirty a) lost = absurd lost
    at (fault.Worn a) lost = absurd lost
    at fault.NoMemory lost = absurd lost
    at (fault.NoSpace wanted found) lost = (is, lost.0)
    at (fault.Poison done) lost = (is, lost.2)
