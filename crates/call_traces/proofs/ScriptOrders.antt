-- The calls of a script's trace come before one another as the script has them.
use Rattle.std.proofs.Common.{◌≡◌, ◌⊎◌, ℕ, ◌<◌, inl, inr, List, [], ◌∷◌, ◌++◌, get_or, refl, sym, ap, ◌∙◌, subst, arith, append_assoc}
use Rattle.std.specs.Prelude.{All}
use Rattle.std.proofs.lemmas.List.Elements.{All-append, All-cons, All-head, All-nil, All-tail, All-weaker}
use Rattle.io_model.specs.declared.script.Script.{Script}
use Rattle.call_traces.specs.ScriptTraces.{ArePhases, AreCallers, AreRising, caller_of, phase_of}
use Rattle.call_traces.specs.SeatTraces.{ComesBefore, EachBefore, PhasesInOrder, all_calls, calls_in}
use Rattle.call_traces.specs.Traces.{Traced}

-- what holds of each of these beside each of two lists holds of them beside both
beside-both : {A : Type 0} (R : A → A → Type 0) (xs ys zs : List A) → All (λ x. All (R x) ys) xs → All (λ x. All (R x) zs) xs → All (λ x. All (R x) (ys ++ zs)) xs
beside-both R [] ys zs first second = All-nil (λ x. All (R x) (ys ++ zs))
beside-both R (x ∷ xs) ys zs first second =
    All-cons (λ v. All (R v) (ys ++ zs)) x xs (All-append (R x) ys zs (All-head (λ v. All (R v) ys) x xs first) (All-head (λ v. All (R v) zs) x xs second))
    (beside-both R xs ys zs (All-tail (λ v. All (R v) ys) x xs first) (All-tail (λ v. All (R v) zs) x xs second))

-- of two lists the items of the first
pub all-left : {A : Type 0} (P : A → Type 0) (xs ys : List A) → All P (xs ++ ys) → All P xs
all-left P [] ys all = All-nil P
all-left P (x ∷ xs) ys all = All-cons P x xs (All-head P x (xs ++ ys) all) (all-left P xs ys (All-tail P x (xs ++ ys) all))

module _ (script : Script) (k : ℕ) where
  -- the first call is of an earlier phase, or an earlier one of the same caller
  abbrev pub IsBefore : Traced → Traced → Type 0
  IsBefore c d = (phase_of script c < phase_of script d) ⊎ ((caller_of script c ≡ caller_of script d) × (c.number < d.number))

  abbrev KeepsOrder : Traced → Traced → Type 0
  KeepsOrder c d = IsBefore c d → ComesBefore k c d

  abbrev pub KeepOrder : List Traced → List Traced → Type 0
  KeepOrder calls others = All (λ c. All (KeepsOrder c) others) calls

  abbrev IsOf : ℕ → Traced → Type 0
  IsOf phase c = phase_of script c ≡ phase

  -- of two calls of one phase the second is no earlier one
  not-before : (phase : ℕ) (c d : Traced) → IsOf phase c → IsOf phase d → (caller_of script c ≡ caller_of script d → c.number < d.number → ⊥) → IsBefore c d → ⊥
  not-before phase c d here there unlike (inl less) = omega (arith, here, there, less)
  not-before phase c d here there unlike (inr both) = unlike both.0 both.1

  -- a later call of a caller stands before none of its earlier ones
  none-back : (phase : ℕ) (c : Traced) (calls : List Traced) → IsOf phase c → All (IsOf phase) calls → All (λ d. c.number < d.number) calls → All (λ d. All (KeepsOrder d) (c ∷ [])) calls
  none-back phase c [] here are rising = All-nil (λ d. All (KeepsOrder d) (c ∷ []))
  none-back phase c (d ∷ calls) here are rising =
      let less : c.number < d.number = All-head (λ (x : Traced). c.number < x.number) d calls rising in
      let there = All-head (IsOf phase) d calls are in
      All-cons (λ x. All (KeepsOrder x) (c ∷ [])) d calls
      (All-cons (KeepsOrder d) c [] (λ before. absurd (not-before phase d c there here (λ same more. omega (arith, less, more)) before)) (All-nil (KeepsOrder d)))
      (none-back phase c calls here (All-tail (IsOf phase) d calls are) (All-tail (λ (x : Traced). c.number < x.number) d calls rising))

  -- the calls of one caller
  rising-order : (phase : ℕ) (calls : List Traced) → All (IsOf phase) calls → AreRising script calls → EachBefore k calls → KeepOrder calls calls
  rising-order phase [] are rising each = All-nil (λ c. All (KeepsOrder c) [])
  rising-order phase (c ∷ calls) are rising each =
      let here = All-head (IsOf phase) c calls are in
      let rest = All-tail (IsOf phase) c calls are in
      let own : KeepsOrder c c = λ before. absurd (not-before phase c c here here (λ same more. omega (arith, more)) before) in
      All-cons (λ x. All (KeepsOrder x) (c ∷ calls)) c calls (All-cons (KeepsOrder c) c calls own (All-weaker (ComesBefore k c) (KeepsOrder c) (λ d comes before. comes) calls each.0))
      (beside-both KeepsOrder calls (c ∷ []) calls (none-back phase c calls here rest rising.0) (rising-order phase calls rest rising.1 each.1))

  -- the calls of one phase
  phase-order : (phase : ℕ) (callers : List (List Traced)) → All (IsOf phase) (calls_in callers) → AreCallers script callers → All (EachBefore k) callers → KeepOrder (calls_in callers) (calls_in callers)
  phase-order phase [] are others each = All-nil (λ c. All (KeepsOrder c) [])
  phase-order phase (calls ∷ callers) are (one, apart, others) each =
      let more : List Traced = calls_in callers in
      let mine : All (IsOf phase) calls = all-left (IsOf phase) calls more are in
      let theirs : All (IsOf phase) more = all-right calls more are in
      let own = rising-order phase calls mine one.rising (All-head (EachBefore k) calls callers each) in
      let across : KeepOrder calls more = λ i c below j d within. λ before. absurd (not-before phase (get_or calls i c) (get_or more j d) (mine i c below) (theirs j d within) (λ same less. apart i c below j d within same) before) in
      let back : KeepOrder more calls = λ j d within i c below. λ before. absurd (not-before phase (get_or more j d) (get_or calls i c) (theirs j d within) (mine i c below) (λ same less. apart i c below j d within (sym same)) before) in
      All-append (λ c. All (KeepsOrder c) (calls ++ more)) calls more (beside-both KeepsOrder calls calls more own across)
      (beside-both KeepsOrder more calls more back (phase-order phase callers theirs others (All-tail (EachBefore k) calls callers each)))
    where
      all-right : (xs ys : List Traced) → All (IsOf phase) (xs ++ ys) → All (IsOf phase) ys
      all-right [] ys all = all
      all-right (x ∷ xs) ys all = all-right xs ys (All-tail (IsOf phase) x (xs ++ ys) all)

  -- all calls
  pub phases-order : (phases : List (List (List Traced))) → ArePhases script phases → PhasesInOrder k phases → KeepOrder (all_calls phases) (all_calls phases)
  phases-order [] are orders = All-nil (λ c. All (KeepsOrder c) [])
  phases-order (callers ∷ phases) (first, rest) (each, before, more) =
      let mine : List Traced = calls_in callers in
      let later : List Traced = all_calls phases in
      let own = phase-order first.phase callers first.are first.callers_are each in
      let across : KeepOrder mine later = All-weaker (λ c. All (ComesBefore k c) later) (λ c. All (KeepsOrder c) later) (λ c all. All-weaker (ComesBefore k c) (KeepsOrder c) (λ d comes earlier. comes) later all) mine before in
      let back : KeepOrder later mine = λ j d within i c below. λ earlier. absurd (none (get_or mine i c) (get_or later j d) (first.earlier i c below j d within).phase (first.earlier i c below j d within).number earlier) in
      All-append (λ c. All (KeepsOrder c) (mine ++ later)) mine later (beside-both KeepsOrder mine mine later own across) (beside-both KeepsOrder later mine later back (phases-order phases rest more))
    where
      none : (c d : Traced) → phase_of script c < phase_of script d → c.number < d.number → IsBefore d c → ⊥
      none c d phase number (inl less) = omega (arith, phase, less)
      none c d phase number (inr both) = let less = both.1 in omega (arith, number, less)

-- the calls of phases and of more, and the order of the first ones
pub all-append : (phases more : List (List (List Traced))) → all_calls (phases ++ more) ≡ all_calls phases ++ all_calls more
all-append [] more = refl
all-append (callers ∷ phases) more = ap (λ l. calls_in callers ++ l) (all-append phases more) ∙ sym (append_assoc (calls_in callers) (all_calls phases) (all_calls more))

pub first-phases : (k : ℕ) (phases more : List (List (List Traced))) → PhasesInOrder k (phases ++ more) → PhasesInOrder k phases
first-phases k [] more orders = tt
first-phases k (callers ∷ phases) more (each, before, rest) = (
  each,
  All-weaker (λ c. All (ComesBefore k c) (all_calls (phases ++ more))) (λ c. All (ComesBefore k c) (all_calls phases))
      (λ c all. all-left (ComesBefore k c) (all_calls phases) (all_calls more) (subst (All (ComesBefore k c)) (all-append phases more) all)) (calls_in callers) before,
  first-phases k phases more rest,
)
