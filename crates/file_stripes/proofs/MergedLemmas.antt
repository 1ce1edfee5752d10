-- Merged lists of extents, block after block.
use Rattle.std.proofs.Common.{◌≡◌, ℕ, ◌+◌, ◌<◌, ◌≤◌, true, not, ◌==◌, nat_lt, List, [], ◌∷◌, All, arith}
use Rattle.std.proofs.lemmas.Bool.{eqb-true, eq-eqb, and_parts, and_from}
use Rattle.std.proofs.lemmas.Bool.Decides.{nat_tests}
use Rattle.std.proofs.lemmas.List.Elements.{All-cons, All-nil}
use Rattle.io_model.specs.Fitting.{could_be_joined, is_merged_from}
use Rattle.io_model.specs.declared.file.Extent.{Extent}
use Rattle.file_stripes.specs.Runs.{IsShort}

-- the last of merged extents
pub record Last (a b : ℕ) (e : Extent) : Type 0 where
  pub at : e.block ≡ a
  pub some : nat_lt 0 e.length ≡ true
  pub end : e.block + e.length ≡ b

-- one before it
pub record Before (a b : ℕ) (e f : Extent) (es : List Extent) : Type 0 where
  pub at : e.block ≡ a
  pub some : nat_lt 0 e.length ≡ true
  pub apart : not (could_be_joined e f) ≡ true
  pub rest : is_merged_from (a + e.length) b (f ∷ es) ≡ true

pub last_of : (a b : ℕ) (e : Extent) → is_merged_from a b (e ∷ []) ≡ true → Last a b e
last_of a b e h =
    let p = and_parts (e.block == a) _ h in
    let q = and_parts (nat_lt 0 e.length) _ p.1 in
    record { at = eqb-true _ _ p.0; some = q.0; end = eqb-true _ _ q.1 }

pub before_of : (a b : ℕ) (e f : Extent) (es : List Extent) → is_merged_from a b (e ∷ f ∷ es) ≡ true → Before a b e f es
before_of a b e f es h =
    let p = and_parts (e.block == a) _ h in
    let q = and_parts (nat_lt 0 e.length) _ p.1 in
    let r = and_parts (not (could_be_joined e f)) _ q.1 in
    record { at = eqb-true _ _ p.0; some = q.0; apart = r.0; rest = r.1 }

pub from_last : (a b : ℕ) (e : Extent) → Last a b e → is_merged_from a b (e ∷ []) ≡ true
from_last a b e l = and_from _ _ (eq-eqb _ _ l.at) (and_from _ _ l.some (eq-eqb _ _ l.end))

pub from_before : (a b : ℕ) (e f : Extent) (es : List Extent) → Before a b e f es → is_merged_from a b (e ∷ f ∷ es) ≡ true
from_before a b e f es l = and_from _ _ (eq-eqb _ _ l.at) (and_from _ _ l.some (and_from _ _ l.apart l.rest))

-- merged extents go up
pub merged-le : (a b : ℕ) (es : List Extent) → is_merged_from a b es ≡ true → a ≤ b
merged-le a b [] h = omega (arith, eqb-true a b h)
merged-le a b (e ∷ []) h = let l = last_of a b e h in omega (arith, l.at, l.end)
merged-le a b (e ∷ f ∷ es) h =
    let l = before_of a b e f es h in omega (arith, merged-le (a + e.length) b (f ∷ es) l.rest)

-- none is longer than all of them together
pub merged-short : (a b : ℕ) (es : List Extent) → is_merged_from a b es ≡ true → b ≤ a + 65536 → All IsShort es
merged-short a b [] h m = All-nil IsShort
merged-short a b (e ∷ []) h m =
    let l = last_of a b e h in
    let short : IsShort e = omega (arith, l.at, l.end) in
    All-cons IsShort e [] short (All-nil IsShort)
merged-short a b (e ∷ f ∷ es) h m =
    let l = before_of a b e f es h in
    let up = merged-le (a + e.length) b (f ∷ es) l.rest in
    let short : IsShort e = omega arith in
    All-cons IsShort e (f ∷ es) short (merged-short (a + e.length) b (f ∷ es) l.rest (omega arith))

-- a first extent and the others
pub record Heads (a b : ℕ) (e : Extent) (es : List Extent) : Type 0 where
  pub at : e.block ≡ a
  pub some : 0 < e.length
  pub rest : is_merged_from (a + e.length) b es ≡ true

positive : (n : ℕ) → nat_lt 0 n ≡ true → 0 < n
positive n h = grind (arith, nat_tests)

pub heads : (a b : ℕ) (e : Extent) (es : List Extent) → is_merged_from a b (e ∷ es) ≡ true → Heads a b e es
heads a b e [] h =
    let l = last_of a b e h in record { at = l.at; some = positive e.length l.some; rest = eq-eqb _ _ (omega (arith, l.at, l.end)) }
heads a b e (f ∷ es) h =
    let l = before_of a b e f es h in record { at = l.at; some = positive e.length l.some; rest = l.rest }
