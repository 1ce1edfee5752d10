-- What the rule of a countdown means.
use Rattle.std.proofs.Common.{◌≡◌, ◌≢◌, ℕ, suc, ◌≤◌, Bool, true, false, cond, eqb, get_or, sym, refl, ap, ◌∙◌, arith, List, [], ◌∷◌}
use Rattle.std.proofs.lemmas.Bool.Decides.{nat_tests}
use mathlib.Core.Logic.{dite}
use mathlib.Core.Option.{some}
use native.Mathlib.Decide.{ℕ_discrete}
use lib.ListN.{get_elem?}
use Rattle.folio_bits.specs.declared.rule.Known.{Known}
use Rattle.folio_bits.specs.Counting.{total, was_last, last, lasts, IsToldLast, OneIsToldLast, LastIsToldAfterAll, SomebodyIsToldLast}
use Rattle.folio_bits.proofs.Totals.{one_weighs, two_weigh, none_weighs}

last-told : (v : Known) → IsToldLast v → last v ≡ 1
last-told v told = ap (λ (b : Bool). cond b 1 0) told

at_most_one : (n : ℕ) → cond (eqb n 0) 1 0 ≤ 1
at_most_one n = grind (arith, nat_tests)

nothing_left : (n : ℕ) → 1 ≤ cond (eqb n 0) 1 0 → n ≡ 0
nothing_left n h = grind (arith, nat_tests)

pub one_is_told_last : OneIsToldLast
one_is_told_last s r i j v w at told at' told' =
    let two : i ≢ j → ⊥ = λ apart.
    let both = two_weigh last s.views i j v w apart at at' in
    let one = last-told v told in
    let other = last-told w told' in
    let counted = r.told in
    let most = at_most_one (get_or s.words 0 0) in
    omega arith in
    dite (ℕ_discrete i j) (λ same. same) (λ apart. absurd (two apart))

pub last_is_told_after_all : LastIsToldAfterAll
last_is_told_after_all s r i j v w at told at' =
    let one = last-told v told in
    let weighs = one_weighs last s.views i v at in
    let counted = r.told in
    let zero_left : get_or s.words 0 0 ≡ 0 = nothing_left (get_or s.words 0 0) (omega arith) in
    let added = r.added in
    let has = one_weighs (λ x. x.amount) s.views j w at' in
    omega arith

-- some seat was told Last where one is counted
told_by : (l : List Known) → lasts l ≡ 1 → (i : ℕ) × (v : Known) × (get_elem? l i ≡ some v) × IsToldLast v
told_by [] h = absurd (omega arith)
told_by (x ∷ xs) h =
    let P : Bool → Type 0 = λ b. was_last x.spent ≡ b → (i : ℕ) × (v : Known) × (get_elem? (x ∷ xs) i ≡ some v) × IsToldLast v in
    let yes : P true = λ is. (0, x, refl, is) in
    let no : P false = λ is.
    let none_here : last x ≡ 0 = ap (λ (b : Bool). cond b 1 0) is in
    let more = told_by xs (omega arith) in
    (suc more.0, more.1, more.2, more.3) in
    let either : (b : Bool) → P b = λ b. elim b as P [ true ↦ yes | false ↦ no ] in
    either (was_last x.spent) refl

pub somebody_is_told_last : SomebodyIsToldLast
somebody_is_told_last s r none_has =
    let all : total (λ x. x.amount) s.views ≡ 0 = none_weighs (λ x. x.amount) s.views none_has in
    let zero_left : get_or s.words 0 0 ≡ 0 = sym r.added ∙ all in
    told_by s.views (r.told ∙ ap (λ (n : ℕ). cond (eqb n 0) 1 0) zero_left)
