-- The mask of a run, what it sets and clears, and the lowest run of a word.
use Rattle.std.proofs.Common.{◌≡◌, ◌≢◌, ℕ, ◌+◌, ◌-◌, ◌*◌, ◌/◌, ◌%◌, ◌^◌, ◌<◌, ◌≤◌, true, false, eqb, min, max, sym, ◌∙◌, ap, arith, bit_and, bit_or, w32, inl, inr, Option, Some, None}
use Rattle.std.proofs.Math.Pow.{pow_mono}
use Rattle.std.proofs.lemmas.Bool.{cases_lt}
use Rattle.std.proofs.lemmas.Bool.Decides.{nat_tests}
use Rattle.std.proofs.lemmas.Nat.{pow_pos, one_shl, shr-shr}
use Rattle.std.proofs.lemmas.Nat.Bits.{bit_at-lt, bit_at_and, bit_at_or, bit_at_not, bit_at_mask_inside, bit_at_mask_below, bit_at_mask_above, bit_at-zero}
use Rattle.std.specs.Int.{bit_at, bit_not}
use Rattle.std.specs.Option.{MatchOption}
use Rattle.folio_bits.specs.BlockSets.{has, with_run, is_set, set_of, HasNoneFrom, IsNextRun, IsLowestRun}
use Rattle.folio_bits.proofs.Runs.{length-set_of, has-set_of, has-past, set_of-with_run}

-- the bits from `lo` on below `hi`
abbrev pub mask_of : ℕ → ℕ → ℕ
mask_of lo hi = 2 ^ hi - 2 ^ lo

pub mask_of-lt : (lo hi : ℕ) → hi ≤ 32 → mask_of lo hi < 2 ^ 32
mask_of-lt lo hi few =
    let most : 2 ^ hi ≤ 2 ^ 32 = pow_mono few in let some : 0 < 2 ^ lo = pow_pos lo in omega arith

pub shifted_le : (lo hi : ℕ) → lo ≤ hi → hi ≤ 32 → 1 * 2 ^ lo % 2 ^ 64 ≤ 1 * 2 ^ hi % 2 ^ 64
shifted_le lo hi order few =
    let low = one_shl lo 64 (omega arith) in
    let high = one_shl hi 64 (omega arith) in
    let mono : 2 ^ lo ≤ 2 ^ hi = pow_mono order in
    omega arith

set_by : (a : ℕ) (b : ℕ) → a < 2 → b ≡ 1 → eqb (max a b) 1 ≡ true
set_by a b small one = grind (arith, nat_tests)

set_not : (a : ℕ) (b : ℕ) → a < 2 → b ≡ 0 → max a b ≡ a
set_not a b small none = omega arith

clear_by : (a : ℕ) (b : ℕ) → a < 2 → b ≡ 0 → eqb (min a b) 1 ≡ false
clear_by a b small none = grind (arith, nat_tests)

clear_not : (a : ℕ) (b : ℕ) → a < 2 → b ≡ 1 → min a b ≡ a
clear_not a b small one = omega arith

pub set_of-or : (blocks mask from n : ℕ) → from + n ≤ blocks → set_of blocks (bit_or mask (mask_of from (from + n))) ≡ with_run (set_of blocks mask) from n true
set_of-or blocks mask from n fits =
    let hi : ℕ = from + n in
    let m : ℕ = mask_of from hi in
    let other : (i : ℕ) → bit_at m i ≡ 0 → is_set (bit_or mask m) i ≡ is_set mask i = λ i none.
    ap (λ (k : ℕ). eqb k 1) (bit_at_or mask m i ∙ set_not (bit_at mask i) (bit_at m i) (bit_at-lt mask i) none) in
    set_of-with_run blocks mask (bit_or mask m) from n true fits
    (λ i below. other i (bit_at_mask_below from hi i below))
    (λ i after before. ap (λ (k : ℕ). eqb k 1) (bit_at_or mask m i) ∙ set_by (bit_at mask i) (bit_at m i) (bit_at-lt mask i) (bit_at_mask_inside from hi i after before))
    (λ i inside past. other i (bit_at_mask_above from hi i past))

pub set_of-and_not : (blocks mask from n : ℕ) → from + n ≤ blocks → blocks ≤ 32 → set_of blocks (bit_and mask (bit_not w32 (mask_of from (from + n)))) ≡ with_run (set_of blocks mask) from n false
set_of-and_not blocks mask from n fits few =
    let hi : ℕ = from + n in
    let m : ℕ = mask_of from hi in
    let small : m < 2 ^ 32 = mask_of-lt from hi (omega arith) in
    let kept : ℕ = bit_not w32 m in
    let turned : (i : ℕ) → i < 32 → bit_at kept i ≡ 1 - bit_at m i = λ i inside. bit_at_not w32 m i small inside in
    let other : (i : ℕ) → i < 32 → bit_at m i ≡ 0 → is_set (bit_and mask kept) i ≡ is_set mask i = λ i inside none.
    ap (λ (k : ℕ). eqb k 1) (bit_at_and mask kept i ∙ clear_not (bit_at mask i) (bit_at kept i) (bit_at-lt mask i) (turned i inside ∙ ap (λ (k : ℕ). 1 - k) none)) in
    set_of-with_run blocks mask (bit_and mask kept) from n false fits
    (λ i below. other i (omega arith) (bit_at_mask_below from hi i below))
    (λ i after before. ap (λ (k : ℕ). eqb k 1) (bit_at_and mask kept i)
    ∙ clear_by (bit_at mask i) (bit_at kept i) (bit_at-lt mask i) (turned i (omega arith) ∙ ap (λ (k : ℕ). 1 - k) (bit_at_mask_inside from hi i after before)))
    (λ i inside past. other i (omega arith) (bit_at_mask_above from hi i past))

-- the lowest run: up to the lowest one, and from there up to the next zero
pub lowest : (rest at n : ℕ) → bit_at rest at ≡ 1 → ((i : ℕ) → i < at → bit_at rest i ≡ 0) → bit_at (rest / 2 ^ at) n ≡ 0
    → ((i : ℕ) → i < n → bit_at (rest / 2 ^ at) i ≡ 1) → IsLowestRun rest at n
lowest rest at n one zeros ends ones =
    let moved : (i : ℕ) → bit_at (rest / 2 ^ at) i ≡ bit_at rest (at + i) = λ i. ap (λ (q : ℕ). q % 2) (shr-shr rest at i) in
    let not_empty : n ≢ 0 = λ empty.
    let here : bit_at rest at ≡ 0 = ap (λ (k : ℕ). bit_at rest k) (let e : at ≡ at + n = omega arith in e) ∙ sym (moved n) ∙ ends in omega arith in
    record {
      some = omega arith;
      zeros = zeros;
      ones = λ i after before.
          let e : at + (i - at) ≡ i = omega arith in
          ap (λ (k : ℕ). bit_at rest k) (sym e) ∙ sym (moved (i - at)) ∙ ones (i - at) (omega arith);
      ends = sym (moved n) ∙ ends;
    }

module _ (mask blocks from : ℕ) where
  abbrev rest_of : ℕ
  rest_of = bit_and mask (mask_of from blocks)

  in_rest : (i : ℕ) → from ≤ i → i < blocks → bit_at rest_of i ≡ bit_at mask i
  in_rest i after inside =
      bit_at_and mask (mask_of from blocks) i
      ∙ clear_not (bit_at mask i) (bit_at (mask_of from blocks) i) (bit_at-lt mask i) (bit_at_mask_inside from blocks i after inside)

  no_bit : (i : ℕ) → bit_at (mask_of from blocks) i ≡ 0 → bit_at rest_of i ≡ 0
  no_bit i none =
      let both = bit_at_and mask (mask_of from blocks) i in let small = bit_at-lt mask i in omega arith

  -- a bit of the rest is at or after `from`, and in the folio
  where_set : (i : ℕ) → bit_at rest_of i ≡ 1 → (from ≤ i) × (i < blocks)
  where_set i one =
      let after : from ≤ i = elim (cases_lt i from) [
        | inl below ↦ absurd (let none = no_bit i (bit_at_mask_below from blocks i below) in omega arith)
        | inr h ↦ h
      ] in
      let inside : i < blocks = elim (cases_lt i blocks) [
        | inl h ↦ h
        | inr past ↦ absurd (let none = no_bit i (bit_at_mask_above from blocks i past) in omega arith)
      ] in
      (after, inside)

  has-rest : (i b : ℕ) → from ≤ i → i < blocks → bit_at rest_of i ≡ b → has (set_of blocks mask) i ≡ eqb b 1
  has-rest i b after inside is = has-set_of blocks mask i inside ∙ ap (λ (k : ℕ). eqb k 1) (sym (in_rest i after inside) ∙ is)

  has-clear : (i : ℕ) → from ≤ i → bit_at rest_of i ≡ 0 → has (set_of blocks mask) i ≡ false
  has-clear i after is = elim (cases_lt i blocks) [
    | inl inside ↦ has-rest i 0 after inside is
    | inr past ↦ has-past blocks mask i past
  ]

  pub none_from : rest_of ≡ 0 → HasNoneFrom (set_of blocks mask) from
  none_from empty i after = has-clear i after (ap (λ (k : ℕ). bit_at k i) empty ∙ bit_at-zero i)

  pub next_run : (at n : ℕ) → IsLowestRun rest_of at n → IsNextRun (set_of blocks mask) from at n
  next_run at n run =
      let some = run.some in
      let first = where_set at (run.ones at (omega arith) (omega arith)) in
      let end = where_set (at + n - 1) (run.ones (at + n - 1) (omega arith) (omega arith)) in
      let wide = length-set_of blocks mask in
      record {
        after = first.0;
        some = run.some;
        inside = omega arith;
        none_before = λ i after before. has-clear i after (run.zeros i before);
        all = λ i after before. has-rest i 1 (omega arith) (omega arith) (run.ones i after before);
        ends = has-clear (at + n) (omega arith) run.ends;
      }

-- past the folio there is no block
pub none_past : (mask blocks from : ℕ) → blocks ≤ from → HasNoneFrom (set_of blocks mask) from
none_past mask blocks from past i after = has-past blocks mask i (omega arith)

-- what the lowest run of the rest tells of the set
pub found_run : (mask blocks from : ℕ) (r : Option (ℕ × ℕ)) → MatchOption r (bit_and mask (mask_of from blocks) ≡ 0) (λ run. IsLowestRun (bit_and mask (mask_of from blocks)) run.0 run.1)
    → MatchOption r (HasNoneFrom (set_of blocks mask) from) (λ run. IsNextRun (set_of blocks mask) from run.0 run.1)
found_run mask blocks from None h = none_from mask blocks from h
found_run mask blocks from (Some run) h = next_run mask blocks from run.0 run.1 h
