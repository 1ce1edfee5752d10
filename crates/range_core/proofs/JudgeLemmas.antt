-- What a judge was asked, from what the one function tells that asks it, and the same of a judge that stands for another.
use Rattle.std.proofs.Common.{◌≡◌, ℕ, Bool, true, false, Option, Some, None, Ok, Err, refl, sym, subst}
use Rattle.fault_device.specs.declared.lane.Done.{Done}
use Rattle.range_core.specs.Judges.{AskedNow, IsAsked, Judges, Passes, RefusesNow}
use Rattle.range_core.specs.declared.fault.EventFault.{EventFault}
use Rattle.range_core.specs.declared.fault.EventFault.TheVariants.{NoMemory, Poison}

-- what hinders an event is its refusal, before any judgement
pub refuses : (refusal : Option EventFault) (fault : EventFault) (mapped : Bool) → refusal ≡ Some fault → RefusesNow refusal mapped None fault
refuses refusal fault mapped is =
    let R : Option EventFault → Type 0 = λ o. RefusesNow o mapped None fault in
    subst R (sym is) (refl, refl)

-- and so is want of memory, where nothing hinders it
pub starves : (refusal : Option EventFault) (mapped : Bool) → refusal ≡ None → RefusesNow refusal mapped None NoMemory
starves refusal mapped none =
    let R : Option EventFault → Type 0 = λ o. RefusesNow o mapped None NoMemory in
    subst R (sym none) refl

module _ {J : Type 0} (step : J → ℕ → Done → J → Type 0) (k n : ℕ) (was now : J) (t mapped : Bool) where
  -- a judge that was asked where blocks are mapped, and answered that the transfer did not fail
  pub passes : (x : Unit {0}) → k ≡ n → t ≡ mapped → AskedNow t (λ done. step was k done now) (now ≡ was) (Ok x) → (j : Judges step n was now) × Passes mapped j.answer
  passes x many is told =
      let A : ℕ → Type 0 = λ m. AskedNow t (λ done. step was m done now) (now ≡ was) (Ok x) in
      let B : Bool → Type 0 = λ u. AskedNow u (λ done. step was n done now) (now ≡ was) (Ok x) in
      at mapped (subst B is (subst A many told))
    where
      at : (u : Bool) → AskedNow u (λ done. step was n done now) (now ≡ was) (Ok x) → (j : Judges step n was now) × Passes u j.answer
      at true told = (record { answer = Some told.0; is_asked = told.2 }, told.1)
      at false same = (record { answer = None; is_asked = same }, refl)

  -- a judge that answered that it failed
  pub fails : (refusal : Option EventFault) (done : Done) → k ≡ n → t ≡ mapped → refusal ≡ None → AskedNow t (λ done. step was k done now) (now ≡ was) (Err done) → (j : Judges step n was now) × RefusesNow refusal mapped j.answer (Poison done)
  fails refusal done many is none told =
      let A : ℕ → Type 0 = λ m. AskedNow t (λ done. step was m done now) (now ≡ was) (Err done) in
      let B : Bool → Type 0 = λ u. AskedNow u (λ done. step was n done now) (now ≡ was) (Err done) in
      let R : Option EventFault → Type 0 = λ o. (j : Judges step n was now) × RefusesNow o mapped j.answer (Poison done) in
      subst R (sym none) (at mapped (subst B is (subst A many told)))
    where
      at : (u : Bool) → AskedNow u (λ done. step was n done now) (now ≡ was) (Err done) → (j : Judges step n was now) × RefusesNow None u j.answer (Poison done)
      at true told = (record { answer = Some done; is_asked = told.1 }, (refl, told.0, refl))
      at false told = absurd told

-- what a judge was asked, another was, which stands for it
pub stood : {J K : Type 0} (step : J → ℕ → Done → J → Type 0) (told : K → ℕ → Done → K → Type 0) (n : ℕ) (was now : J) (first last : K) → (now ≡ was → last ≡ first) → ((done : Done) → step was n done now → told first n done last)
    → (answer : Option Done) → IsAsked step n was now answer → IsAsked told n first last answer
stood step told n was now first last same so None at = same at
stood step told n was now first last same so (Some done) at = so done at

abbrev pub stands : {J K : Type 0} {step : J → ℕ → Done → J → Type 0} {told : K → ℕ → Done → K → Type 0} {n : ℕ} {was now : J} {first last : K} → (now ≡ was → last ≡ first) → ((done : Done) → step was n done now → told first n done last)
    → Judges step n was now → Judges told n first last
stands {step = step} {told = told} {n = n} {was = was} {now = now} {first = first} {last = last} same so j = record { answer = j.answer; is_asked = stood step told n was now first last same so j.answer j.is_asked }
