-- The parts of a range in the blocks that it meets, and in every other block.
use Rattle.std.proofs.Common.{◌≡◌, ℕ, zero, suc, ◌+◌, ◌-◌, ◌*◌, ◌/◌, ◌<◌, ◌≤◌, Bool, true, false, ◌&&◌, nat_le, nat_lt, arith, refl, ◌⊎◌, inl, inr}
use Rattle.std.proofs.Math.Nat.{div-mul-le_self, mul-le-mul_right}
use Rattle.std.proofs.lemmas.Bool.{leb-true, leb-false, le-leb, lt-leb, ltb-true, ltb-false, lt-ltb, le-ltb}
use Rattle.std.proofs.lemmas.Nat.{le-div}
use Rattle.std.specs.Prelude.{IsTrue, min, max}
use Rattle.iob_base.specs.Geometry.{is_block_size}
use Rattle.io_model.specs.Parts.{span, meets}
use Rattle.iomap_replay.proofs.Devices.{and-left, and-right}
use Rattle.iomap_replay.specs.Runs.{is_among}

-- what a number is that is one of so many from one on
pub among : (b k c : ℕ) → is_among b k c ≡ true → (b ≤ c) × (c < b + k)
among b k c is =
    (leb-true b c (and-left (nat_le b c) (nat_lt c (b + k)) is), ltb-true c (b + k) (and-right (nat_le b c) (nat_lt c (b + k)) is))

pub apart : (b k c : ℕ) → is_among b k c ≡ false → (c < b) ⊎ (b + k ≤ c)
apart b k c is = by_low (nat_le b c) refl
  where
    by_high : (t : Bool) → nat_lt c (b + k) ≡ t → (t ≡ true → ⊥) → (c < b) ⊎ (b + k ≤ c)
    by_high true high other = absurd (other refl)
    by_high false high other = inr (ltb-false c (b + k) high)

    by_low : (t : Bool) → nat_le b c ≡ t → (c < b) ⊎ (b + k ≤ c)
    by_low false low = inl (leb-false b c low)
    by_low true low = by_high (nat_lt c (b + k)) refl (λ high. absurd (let both : nat_le b c && nat_lt c (b + k) ≡ true = rw (low, high) refl in cc))

pub is_among-in : (b k c : ℕ) → b ≤ c → c < b + k → is_among b k c ≡ true
is_among-in b k c low high = rw (le-leb b c low, lt-ltb c (b + k) high) refl

pub is_among-out : (b k c : ℕ) → (c < b) ⊎ (b + k ≤ c) → is_among b k c ≡ false
is_among-out b k c (inl below) = rw (lt-leb _ _ below) refl
is_among-out b k c (inr above) = rw (le-leb b c (omega (arith, above)), le-ltb _ _ above) refl

-- a block has bytes
pub size-some : (n : ℕ) → IsTrue (is_block_size n) → 0 < n
size-some zero is = absurd (cc)
size-some (suc n) is = omega arith

-- a range does not end before it begins
pub begins-first : (size off n : ℕ) → 0 < size → 1 ≤ n → off / size ≤ (off + n - 1) / size
begins-first size off n some more = le-div _ _ size some (let low = div-mul-le_self off size in omega (arith, low, more))

-- a range of some bytes that begins in block b and meets k blocks
pub record LiesAcross (size b k from n : ℕ) : Type 0 where
  pub whole : 0 < size
  pub some : 1 ≤ n
  pub low : b * size ≤ from
  pub begin : from < (b + 1) * size
  pub end : (b + k) * size < from + n + size
  pub high : from + n ≤ (b + k) * size

-- where a block that it meets begins and ends, beside the range
pub record Meets (size b k from n c : ℕ) : Type 0 where
  pub next : (c + 1) * size ≡ c * size + size
  pub after : b * size ≤ c * size
  pub begin : from < (c + 1) * size
  pub end : c * size < from + n

pub met : (size b k from n c : ℕ) → LiesAcross size b k from n → b ≤ c → c < b + k → Meets size b k from n c
met size b k from n c lies low high =
    let next : (c + 1) * size ≡ c * size + size = omega arith in
    let after : b * size ≤ c * size = mul-le-mul_right size low in
    let first : (b + 1) * size ≤ (c + 1) * size = mul-le-mul_right size (let step : b + 1 ≤ c + 1 = omega (arith, low) in step) in
    let last : (c + 1) * size ≤ (b + k) * size = mul-le-mul_right size (let step : c + 1 ≤ b + k = omega (arith, high) in step) in
    record { next = next; after = after; begin = omega (arith, lies.begin, first); end = omega (arith, lies.end, last, next) }

pub meets-among : (size b k from n c : ℕ) → LiesAcross size b k from n → is_among b k c ≡ true → meets size (span from (from + n)) c ≡ true
meets-among size b k from n c lies is =
    let at = among b k c is in
    let m = met size b k from n c lies at.0 at.1 in
    let some : max from (c * size) < min (from + n) ((c + 1) * size) = omega (arith, lies.whole, lies.some, m.next, m.begin, m.end) in
    lt-ltb _ _ some

pub meets-elsewhere : (size b k from n c : ℕ) → LiesAcross size b k from n → is_among b k c ≡ false → meets size (span from (from + n)) c ≡ false
meets-elsewhere size b k from n c lies is =
    let none : min (from + n) ((c + 1) * size) ≤ max from (c * size) =
    elim (apart b k c is) [
      | inl below ↦ (let past : (c + 1) * size ≤ b * size = mul-le-mul_right size (let step : c + 1 ≤ b = omega (arith, below) in step) in omega (arith, past, lies.low))
      | inr above ↦ (let past : (b + k) * size ≤ c * size = mul-le-mul_right size above in omega (arith, past, lies.high))
    ] in
    le-ltb _ _ none
