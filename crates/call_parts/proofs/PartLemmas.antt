-- The parts of a range: each has bytes, lies in one folio, and ends with a block or with the range.
use Rattle.std.proofs.Common.{◌≡◌, ℕ, ◌+◌, ◌-◌, ◌*◌, ◌<◌, ◌≤◌, min, refl, sym, ap, ◌∙◌, subst, arith, le-div_iff_mul-le, div-lt_iff_lt-mul, div-mul-le_self, mul-le-mul}
use Rattle.std.specs.Prelude.{◌/◌, ◌%◌}
use Rattle.std.specs.Prelude.{nat_lt, false, [], ◌++◌, if◌then◌else◌, zero, suc}
use Rattle.std.proofs.lemmas.Bool.{lt-ltb}
use Rattle.std.proofs.lemmas.Bool.Decides.{nat_tests}
use Rattle.iob_base.specs.declared.stamp.Stamp.{Stamp}
use Rattle.io_model.specs.Parts.{span}
use Rattle.range_core.specs.Spots as spots
use Rattle.range_core.specs.Stamps.{stamps_from}
use Rattle.range_core.proofs.StampRunLemmas.{stamps_from-parts}
use Rattle.call_parts.specs.Parts.{stamps_over}
use Rattle.std.proofs.Math.Nat.{div-div-eq-div-mul, lt-div-mul-add, mul-mod_left}

-- A part of a range that ends at `to`, where a block has so many bytes and a folio so many blocks
pub record IsPart (size folio to from next : ℕ) : Type 0 where
  pub some : from < next
  pub within : next ≤ to
  pub in_folio : from / size / folio ≡ (next - 1) / size / folio
  pub ends : next < to → next % size ≡ 0

pub div-mono : (a b n : ℕ) → 0 < n → a ≤ b → a / n ≤ b / n
div-mono a b n some le = let h = div-mul-le_self a n in grind (arith, le-div_iff_mul-le)

abbrev met : ℕ → ℕ → ℕ → ℕ
met size from to = spots.blocks_met size from to

-- a number between two multiples
div-between : (n q k : ℕ) → 0 < k → q * k ≤ n → n < (q + 1) * k → n / k ≡ q
div-between n q k some low high = grind (arith, le-div_iff_mul-le, div-lt_iff_lt-mul)

pub part-is : (size folio to from : ℕ) → 0 < size → 0 < folio → from < to → IsPart size folio to from (min to ((from / (size * folio) + 1) * (size * folio)))
part-is size folio to from some more less =
    let all = size * folio in
    let q = from / all in
    let next = min to ((q + 1) * all) in
    let positive : 0 < all = (let h : 1 * 1 ≤ size * folio = mul-le-mul some more in omega (arith, h)) in
    let low : q * all ≤ from = div-mul-le_self from all in
    let high : from < q * all + all = lt-div-mul-add positive in
    let step : (q + 1) * all ≡ q * all + all = omega arith in
    let begins : from < next = omega (arith, high, step, less) in
    let last : (next - 1) / all ≡ q = div-between (next - 1) q all positive (omega (arith, low, begins)) (omega (arith, begins)) in
    record {
      some = begins;
      within = omega arith;
      in_folio = div-div-eq-div-mul from size folio ∙ sym last ∙ sym (div-div-eq-div-mul (next - 1) size folio);
      ends = λ before.
          let is : next ≡ (q + 1) * folio * size = omega (arith, before) in
          ap (λ n. n % size) is ∙ mul-mod_left ((q + 1) * folio) size;
    }

-- the block after the last one with bytes before a place that blocks end at
pub block-after : (size next : ℕ) → 0 < size → 0 < next → next % size ≡ 0 → (next - 1) / size + 1 ≡ next / size
block-after size next some more ends = at (next / size) refl
  where
    at : (k : ℕ) → next / size ≡ k → (next - 1) / size + 1 ≡ k
    at zero e =
        let whole : size * (next / size) + next % size ≡ next = omega arith in
        let here : size * 0 + next % size ≡ next = subst (λ k. size * k + next % size ≡ next) e whole in
        absurd (omega (arith, here, ends, more))
    at (suc j) e =
        let whole : size * (next / size) + next % size ≡ next = omega arith in
        let here : size * suc j + next % size ≡ next = subst (λ k. size * k + next % size ≡ next) e whole in
        let below : (next - 1) / size ≡ j = div-between (next - 1) j size some (omega (arith, here, ends)) (omega (arith, here, ends)) in
        omega (arith, below)

-- one stamp for each block of a span
module _ (size : ℕ) (some : 0 < size) (stamp : Stamp) where
  -- a run of bytes has them where it has bytes
  pub over-met : (from to : ℕ) → from < to → stamps_over size (span from to) stamp ≡ stamps_from (from / size) (met size from to) stamp
  over-met from to less = ap (λ b. stamps_from (from / size) (if b then met size from to else 0) stamp) (lt-ltb from to less)

  pub over-none : (from : ℕ) → stamps_over size (span from from) stamp ≡ []
  over-none from = (let no : nat_lt from from ≡ false = grind (arith, nat_tests) in ap (λ b. stamps_from (from / size) (if b then met size from from else 0) stamp) no)

  -- two runs of bytes that meet where a block ends
  pub over-parts : (from next to : ℕ) → from < next → next < to → next % size ≡ 0 → stamps_over size (span from next) stamp ++ stamps_over size (span next to) stamp ≡ stamps_over size (span from to) stamp
  over-parts from next to first second ends =
      let after = block-after size next some (omega (arith, first)) ends in
      let low : from / size ≤ (next - 1) / size = div-mono from (next - 1) size some (omega (arith, first)) in
      let high : next / size ≤ (to - 1) / size = div-mono next (to - 1) size some (omega (arith, second)) in
      let sum : met size from to ≡ met size from next + met size next to = omega (arith, after, low, high) in
      let goes_on : from / size + met size from next ≡ next / size = omega (arith, after, low) in
      ap (λ l. l ++ stamps_over size (span next to) stamp) (over-met from next first)
      ∙ ap (λ l. stamps_from (from / size) (met size from next) stamp ++ l) (over-met next to second ∙ ap (λ b. stamps_from b (met size next to) stamp) (sym goes_on))
      ∙ sym (stamps_from-parts (from / size) (met size from next) (met size next to) stamp)
      ∙ ap (λ n. stamps_from (from / size) n stamp) (sym sum)
      ∙ sym (over-met from to (omega (arith, first, second)))
