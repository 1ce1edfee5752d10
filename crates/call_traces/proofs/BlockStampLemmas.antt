-- The stamps that a run of blocks leaves on one of them, and those that entries leave.
use Rattle.std.proofs.Common.{◌≡◌, ℕ, zero, suc, ◌+◌, ◌-◌, ◌/◌, ◌<◌, ◌≤◌, ◌≢◌, ◌⊎◌, inl, inr, ⊎_elim, Bool, true, false, ◌==◌, List, [], ◌∷◌, ◌++◌, if◌then◌else◌, refl, sym, ap, ◌∙◌, arith}
use Rattle.std.specs.Prelude.{All, nat_lt, Some, None}
use Rattle.std.specs.List.{cons_option}
use Rattle.std.proofs.lemmas.Bool.{cases_lt, eqb-false, eqb-true, ltb-true}
use Rattle.std.proofs.lemmas.Bool.Decides.{nat_tests}
use Rattle.std.proofs.lemmas.List.Elements.{All-cons, All-nil, filter_map-append}
use Rattle.iob_base.specs.declared.stamp.Stamp.{Stamp}
use Rattle.io_model.specs.Parts.{Span, blocks_met, meets}
use Rattle.range_core.specs.ByteRuns.{run_between}
use Rattle.range_core.specs.EntryStamps.{stamps_in, stamps_of}
use Rattle.range_core.specs.Spots.{in_run}
use Rattle.range_core.specs.Stamps.{stamp_at, stamps_at, stamps_from}
use Rattle.range_core.specs.declared.entry.Entry.{Entry}
use Rattle.range_core.proofs.AfterRun.{in_run-bounds, in_run-false, in_run-true}
use Rattle.range_core.proofs.ChangeLemmas.{byte_run}
use Rattle.range_core.proofs.FoundLemmas.{met-run}

module _ (b : ℕ) (st : Stamp) where
  -- the one stamp of a block that a run has, and none of another
  abbrev pub one_if : Bool → List Stamp
  one_if here = if here then st ∷ [] else []

  front-stamp : (first : ℕ) (log : List (ℕ × Stamp)) (t : Bool) → (first == b) ≡ t → stamps_at b ((first, st) ∷ log) ≡ one_if t ++ stamps_at b log
  front-stamp first log true e = ap (λ t. cons_option (if t then Some st else None) (stamps_at b log)) e
  front-stamp first log false e = ap (λ t. cons_option (if t then Some st else None) (stamps_at b log)) e

  pub run-stamps : (first len : ℕ) → stamps_at b (stamps_from first len st) ≡ one_if (in_run first len b)
  run-stamps first zero =
      sym (ap one_if (in_run-false first 0 b (⊎_elim (λ (h : b < first). inl h) (λ (h : first ≤ b). inr (omega arith)) (cases_lt b first))))
  run-stamps first (suc len) = at (run-stamps (first + 1) len) (first == b) refl
    where
      others : b ≢ first → in_run (first + 1) len b ≡ in_run first (suc len) b
      others apart = by (in_run first (suc len) b) refl
        where
          by : (t : Bool) → in_run first (suc len) b ≡ t → in_run (first + 1) len b ≡ in_run first (suc len) b
          by true e = let p = in_run-bounds first (suc len) b e in let low = p.0 in let high = p.1 in in_run-true (first + 1) len b (omega (arith, low, apart)) (omega (arith, high)) ∙ sym e
          by false e = in_run-false (first + 1) len b (⊎_elim (λ (h : b < first + 1). inl h) (λ (h : first + 1 ≤ b). ⊎_elim (λ (g : b < first + 1 + len). absurd (let is = in_run-true first (suc len) b (omega arith) (omega arith) in cc)) (λ (g : first + 1 + len ≤ b). inr g) (cases_lt b (first + 1 + len))) (cases_lt b (first + 1))) ∙ sym e

      at : stamps_at b (stamps_from (first + 1) len st) ≡ one_if (in_run (first + 1) len b) → (t : Bool) → (first == b) ≡ t → stamps_at b (stamps_from first (suc len) st) ≡ one_if (in_run first (suc len) b)
      at rest true e =
          let same : first ≡ b = eqb-true first b e in
          front-stamp first (stamps_from (first + 1) len st) true e
          ∙ ap (λ l. st ∷ l) (rest ∙ ap one_if (in_run-false (first + 1) len b (inl (omega (arith, same)))))
          ∙ sym (ap one_if (in_run-true first (suc len) b (omega (arith, same)) (omega (arith, same))))
      at rest false e =
          let other = eqb-false first b e in
          front-stamp first (stamps_from (first + 1) len st) false e ∙ rest ∙ ap one_if (others (λ (h : b ≡ first). other (sym h)))

  -- one stamp where the block has bytes of a span, and none elsewhere
  pub span-stamps : (size : ℕ) (s : Span) → 0 < size → stamps_at b (stamps_from (s.from / size) (blocks_met size s) st) ≡ one_if (meets size s b)
  span-stamps size s some = at (nat_lt s.from s.to) refl
    where
      blocks : Bool → ℕ
      blocks t = if t then ((s.to - 1) / size + 1) - s.from / size else 0

      at : (t : Bool) → nat_lt s.from s.to ≡ t → stamps_at b (stamps_from (s.from / size) (blocks_met size s) st) ≡ one_if (meets size s b)
      at true e =
          ap (λ t. stamps_at b (stamps_from (s.from / size) (blocks t) st)) e
          ∙ run-stamps (s.from / size) (blocks true)
          ∙ ap one_if (sym (met-run (run_between size s.from s.to) (byte_run size s.from s.to some (ltb-true s.from s.to e)) b))
      at false e =
          let none : meets size s b ≡ false = grind (arith, nat_tests) in
          ap (λ t. stamps_at b (stamps_from (s.from / size) (blocks t) st)) e ∙ sym (ap one_if none)

module _ (size b : ℕ) where
  -- the stamps of entries on a block are those of the first of them and then those of the others
  pub stamps-cons : (e : Entry) (es : List Entry) → stamps_at b (stamps_in size (e ∷ es)) ≡ stamps_at b (stamps_of size e) ++ stamps_at b (stamps_in size es)
  stamps-cons e es = filter_map-append (stamp_at b) (stamps_of size e) (stamps_in size es)

  -- an entry left no stamp on the block
  abbrev pub IsUnstamped : Entry → Type 0
  IsUnstamped e = stamps_at b (stamps_of size e) ≡ []

  -- where entries left none, each of them left none
  pub none-stamped : (es : List Entry) → stamps_at b (stamps_in size es) ≡ [] → All IsUnstamped es
  none-stamped [] none = All-nil IsUnstamped
  none-stamped (e ∷ es) none = both (none-stamped es) (stamps_at b (stamps_of size e)) refl
    where
      both : (stamps_at b (stamps_in size es) ≡ [] → All IsUnstamped es) → (l : List Stamp) → stamps_at b (stamps_of size e) ≡ l → All IsUnstamped (e ∷ es)
      both rest [] is = All-cons IsUnstamped e es is (rest (sym (stamps-cons e es ∙ ap (λ l. l ++ stamps_at b (stamps_in size es)) is) ∙ none))
      both rest (x ∷ xs) is = absurd (let n : x ∷ (xs ++ stamps_at b (stamps_in size es)) ≡ [] = sym (stamps-cons e es ∙ ap (λ l. l ++ stamps_at b (stamps_in size es)) is) ∙ none in cc)

  -- where they left one, each of them left none or this one
  abbrev pub IsStampedBy : Stamp → Entry → Type 0
  IsStampedBy st e = IsUnstamped e ⊎ (stamps_at b (stamps_of size e) ≡ st ∷ [])

  pub one-stamped : (st : Stamp) (es : List Entry) → stamps_at b (stamps_in size es) ≡ st ∷ [] → All (IsStampedBy st) es
  one-stamped st [] one = absurd (cc)
  one-stamped st (e ∷ es) one = both (one-stamped st es) (stamps_at b (stamps_of size e)) refl
    where
      others : (l : List Stamp) → stamps_at b (stamps_of size e) ≡ l → l ++ stamps_at b (stamps_in size es) ≡ st ∷ []
      others l is = sym (stamps-cons e es ∙ ap (λ l. l ++ stamps_at b (stamps_in size es)) is) ∙ one

      only : (x : Stamp) (xs : List Stamp) → stamps_at b (stamps_of size e) ≡ x ∷ xs → x ∷ (xs ++ stamps_at b (stamps_in size es)) ≡ st ∷ [] → All (IsStampedBy st) (e ∷ es)
      only x [] is all =
          let same : x ≡ st = cc in
          let none : stamps_at b (stamps_in size es) ≡ [] = cc in
          let each = none-stamped es none in
          All-cons (IsStampedBy st) e es (inr (is ∙ ap (λ y. y ∷ []) same)) (λ k d lt. inl (each k d lt))
      only x (y ∷ ys) is all = absurd (let n : y ∷ (ys ++ stamps_at b (stamps_in size es)) ≡ [] = cc in cc)

      both : (stamps_at b (stamps_in size es) ≡ st ∷ [] → All (IsStampedBy st) es) → (l : List Stamp) → stamps_at b (stamps_of size e) ≡ l → All (IsStampedBy st) (e ∷ es)
      both rest [] is = All-cons (IsStampedBy st) e es (inl is) (rest (others [] is))
      both rest (x ∷ xs) is = only x xs is (others (x ∷ xs) is)
