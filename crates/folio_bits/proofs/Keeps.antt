-- Each kind of step keeps the rule of a countdown.
use Rattle.std.proofs.Common.{◌≡◌, ℕ, ◌+◌, ◌-◌, ◌%◌, ◌^◌, ◌<◌, ◌≤◌, cond, eqb, [], ◌∷◌, ◌++◌, get_or, set, sym, refl, ap, ◌∙◌, subst, arith, length-set, get_or-set_same}
use Rattle.std.proofs.lemmas.Bool.Decides.{nat_tests}
use mathlib.Core.Option.{none}
use Rattle.atomic_table.specs.Table.{Me, step, keeps, Allows, Splits}
use Rattle.folio_bits.specs.declared.rule.Known.{Known}
use Rattle.folio_bits.specs.Counting.{total, last, lasts, AmountsCounted}
use Rattle.folio_bits.specs.Steps.{holder, less, finished, Finished}
use Rattle.folio_bits.proofs.Totals.{total-set, total-snoc, one_weighs}

abbrev M : Type 0
M = Me (Unit {0}) Known

-- a word that was n and is m, after a seat took k from it: it was told Last exactly where nothing is left
told_after : (n m k l : ℕ) → 0 < k → m + k ≡ n → l + 0 ≡ cond (eqb n 0) 1 0 + cond (eqb n k) 1 0 → l ≡ cond (eqb m 0) 1 0
told_after n m k l positive left sum = grind (arith, nat_tests)

less_left : (n k : ℕ) → 0 < k → k ≤ n → n < 2 ^ 64 → (n + (2 ^ 64 - k)) % 2 ^ 64 + k ≡ n
less_left n k positive enough fits = omega arith

pub finishes : (slots id k : ℕ) (me : M) → me.0 ≡ holder k → 0 < k → Allows AmountsCounted slots id me 0 (λ n. (n + (2 ^ 64 - k)) % 2 ^ 64) (Finished (step slots 0 k 0 none) me)
finishes slots id k me is positive s r _ at small =
    let n : ℕ = get_or s.words 0 0 in
    let m : ℕ = (n + (2 ^ 64 - k)) % 2 ^ 64 in
    let w : Known = finished n me.0 in
    let has : me.0.amount ≡ k = λ i. (is i).amount in
    let enough : k ≤ n =
    let one = one_weighs (λ v. v.amount) s.views id me.0 at in let added = r.added in omega arith in
    let left : m + k ≡ n = less_left n k positive enough small in
    let found : n ≡ get_or s.words 0 0 = refl in
    let wide = r.one_word in
    let word : m ≡ get_or (set s.words 0 m) 0 0 = sym (get_or-set_same s.words 0 m 0 (omega arith)) in
    let sums : total (λ v. v.amount) (set s.views id w) + me.0.amount ≡ total (λ v. v.amount) s.views + 0 = total-set (λ v. v.amount) s.views id me.0 w at in
    let added : total (λ v. v.amount) (set s.views id w) ≡ m = let was = r.added in omega arith in
    let none_yet : last me.0 ≡ 0 = ap last is in
    let now : last w ≡ cond (eqb n k) 1 0 = ap (λ (a : ℕ). cond (eqb n a) 1 0) has in
    let ends : lasts (set s.views id w) + 0 ≡ cond (eqb n 0) 1 0 + cond (eqb n k) 1 0 =
    let sum = total-set last s.views id me.0 w at in let was = r.told in omega arith in
    let told = told_after n m k (lasts (set s.views id w)) positive left ends in (
      w,
      keeps,
      tt,
      record {
        one_word = length-set s.words 0 m ∙ wide;
        added = added ∙ word;
        told = told ∙ ap (λ (a : ℕ). cond (eqb a 0) 1 0) word;
      },
      (refl, subst (λ (a : ℕ). a ≤ n) (sym has) enough),
    )

pub cuts : (id k share : ℕ) (v : Known) → v ≡ holder k → share < k → Splits AmountsCounted id v (less share v) (holder share)
cuts id k share v is few s r at =
    let has : v.amount ≡ k = λ i. (is i).amount in
    record {
      one_word = r.one_word;
      added =
          let more = total-snoc (λ x. x.amount) (set s.views id (less share v)) (holder share) in
          let sum = total-set (λ x. x.amount) s.views id v (less share v) at in
          let was = r.added in
          omega arith;
      told =
          let more = total-snoc last (set s.views id (less share v)) (holder share) in
          let sum = total-set last s.views id v (less share v) at in
          let same : last (less share v) ≡ last v = refl in
          let new : last (holder share) ≡ 0 = refl in
          let all : lasts (set s.views id (less share v) ++ holder share ∷ []) ≡ lasts s.views = omega arith in
          all ∙ r.told;
    }
