-- Stamps as runs: what runs show, and when the last one is lengthened.
use Rattle.std.proofs.Common.{◌≡◌, ℕ, zero, suc, ◌+◌, ◌-◌, ◌<◌, ◌==◌, true, ◌&&◌, Some, List, [], ◌∷◌, ◌++◌, length, take, get_or, set, All, refl, sym, ◌∙◌, ap, subst, arith, append-nil, append_assoc, add-zero, add-one}
use Rattle.std.proofs.Math.Seq.{take-suc}
use Rattle.std.specs.Prelude.{slice_get}
use Rattle.std.proofs.lemmas.Bool.{and_parts, eqb-true}
use Rattle.std.proofs.lemmas.Option.{get_or_from_slice_get}
use Rattle.std.proofs.lemmas.List.Elements.{All-cons}
use Rattle.iob_base.specs.declared.stamp.Mark.{Mark}
use Rattle.iob_base.specs.declared.stamp.Mark.TheVariants.{Done, Landed, Missed}
use Rattle.iob_base.specs.declared.stamp.Stamp.{Stamp}
use Rattle.io_model.specs.declared.file.BlockEnd.{BlockEnd}
use Rattle.range_core.specs.RangeView.{IsOfRange}
use Rattle.range_core.specs.StampRuns.{HasBlocks, equal_marks, equal_stamps, expanded, goes_on}
use Rattle.range_core.specs.Stamps.{journaled, stamp_added, stamps_from}
use Rattle.range_core.specs.declared.stamp_run.StampRun.{StampRun}
use Rattle.range_core.proofs.StampLemmas.{journaled-append, journaled-more, stamps_from-more}

-- a run is two runs, one right after the other
pub stamps_from-parts : (b m n : ℕ) (st : Stamp) → stamps_from b (m + n) st ≡ stamps_from b m st ++ stamps_from (b + m) n st
stamps_from-parts b zero n st = (let z : 0 + n ≡ n = omega arith in ap (λ k. stamps_from b k st) z) ∙ ap (λ c. stamps_from c n st) (sym (add-zero b))
stamps_from-parts b (suc m) n st =
    (let z : suc m + n ≡ suc (m + n) = omega arith in ap (λ k. stamps_from b k st) z)
    ∙ ap (λ l. (b, st) ∷ l) (stamps_from-parts (b + 1) m n st ∙ (let z : b + 1 + m ≡ b + suc m = omega arith in ap (λ c. stamps_from (b + 1) m st ++ stamps_from c n st) z))

pub expanded-append : (xs ys : List StampRun) → expanded (xs ++ ys) ≡ expanded xs ++ expanded ys
expanded-append [] ys = refl
expanded-append (r ∷ xs) ys =
    ap (λ l. stamps_from r.first r.count r.stamp ++ l) (expanded-append xs ys) ∙ sym (append_assoc (stamps_from r.first r.count r.stamp) (expanded xs) (expanded ys))

-- one run more
pub expanded-more : (runs : List StampRun) (r : StampRun) → expanded (runs ++ r ∷ []) ≡ expanded runs ++ stamps_from r.first r.count r.stamp
expanded-more runs r = expanded-append runs (r ∷ []) ∙ ap (λ l. expanded runs ++ l) (append-nil (stamps_from r.first r.count r.stamp))

-- a run with n blocks more
abbrev pub longer : StampRun → ℕ → StampRun
longer r n = record r { count = r.count + n }

-- the last run was lengthened
pub expanded-longer : (runs : List StampRun) (i n : ℕ) (d : StampRun) → length runs ≡ suc i
    → expanded (set runs i (longer (get_or runs i d) n)) ≡ expanded runs ++ stamps_from ((get_or runs i d).first + (get_or runs i d).count) n (get_or runs i d).stamp
expanded-longer [] i n d h = absurd (omega arith)
expanded-longer (r ∷ []) zero n d h =
    append-nil (stamps_from r.first (r.count + n) r.stamp) ∙ stamps_from-parts r.first r.count n r.stamp
    ∙ ap (λ l. l ++ stamps_from (r.first + r.count) n r.stamp) (sym (append-nil (stamps_from r.first r.count r.stamp)))
expanded-longer (r ∷ s ∷ runs) zero n d h = absurd (omega arith)
expanded-longer (r ∷ runs) (suc i) n d h =
    ap (λ l. stamps_from r.first r.count r.stamp ++ l) (expanded-longer runs i n d (omega arith))
    ∙ sym (append_assoc (stamps_from r.first r.count r.stamp) (expanded runs) (stamps_from ((get_or runs i d).first + (get_or runs i d).count) n (get_or runs i d).stamp))

module _ (b : ℕ) (st : Stamp) where
  -- what stands before the last stamp does not count
  goes_on-append : (xs : List (ℕ × Stamp)) (y : ℕ × Stamp) (ys : List (ℕ × Stamp)) → goes_on b st (xs ++ y ∷ ys) ≡ goes_on b st (y ∷ ys)
  goes_on-append [] y ys = refl
  goes_on-append (x ∷ []) y ys = refl
  goes_on-append (x ∷ z ∷ xs) y ys = goes_on-append (z ∷ xs) y ys

  -- after a run
  goes_on-run : (f n : ℕ) (s : Stamp) → 0 < n → goes_on b st (stamps_from f n s) ≡ ((f + n == b) && equal_stamps s st)
  goes_on-run f zero s h = absurd (omega arith)
  goes_on-run f (suc n) s h =
      ap (goes_on b st) (stamps_from-more f n s) ∙ goes_on-append (stamps_from f n s) (f + n, s) []
      ∙ (let z : f + n + 1 ≡ f + suc n = omega arith in ap (λ m. (m == b) && equal_stamps s st) z)

  goes_on-after : (xs : List (ℕ × Stamp)) (f n : ℕ) (s : Stamp) (ys : List (ℕ × Stamp)) → 0 < n → goes_on b st (xs ++ (stamps_from f n s ++ ys)) ≡ goes_on b st (stamps_from f n s ++ ys)
  goes_on-after xs f zero s ys h = absurd (omega arith)
  goes_on-after xs f (suc n) s ys h = goes_on-append xs (f, s) (stamps_from (f + 1) n s ++ ys)

  -- after runs, by the last of them
  pub goes_on-expanded : (runs : List StampRun) (i : ℕ) (d : StampRun) → length runs ≡ suc i → All HasBlocks runs
      → goes_on b st (expanded runs) ≡ (((get_or runs i d).first + (get_or runs i d).count == b) && equal_stamps (get_or runs i d).stamp st)
  goes_on-expanded [] i d h all = absurd (omega arith)
  goes_on-expanded (r ∷ []) zero d h all = ap (goes_on b st) (append-nil (stamps_from r.first r.count r.stamp)) ∙ goes_on-run r.first r.count r.stamp (all 0 r (omega arith))
  goes_on-expanded (r ∷ []) (suc i) d h all = absurd (omega arith)
  goes_on-expanded (r ∷ s ∷ runs) zero d h all = absurd (omega arith)
  goes_on-expanded (r ∷ s ∷ runs) (suc i) d h all =
      goes_on-after (stamps_from r.first r.count r.stamp) s.first s.count s.stamp (expanded runs) (all 1 s (omega arith))
      ∙ goes_on-expanded (s ∷ runs) i d (omega arith) (λ k e l. all (suc k) e (omega arith))

same_marks : (m n : Mark) → equal_marks m n ≡ true → m ≡ n
same_marks Done Done e = refl
same_marks Done Landed e = absurd (cc)
same_marks Done Missed e = absurd (cc)
same_marks Landed Done e = absurd (cc)
same_marks Landed Landed e = refl
same_marks Landed Missed e = absurd (cc)
same_marks Missed Done e = absurd (cc)
same_marks Missed Landed e = absurd (cc)
same_marks Missed Missed e = refl

same_stamps : (s t : Stamp) → equal_stamps s t ≡ true → s ≡ t
same_stamps s t e =
    let callers = and_parts (s.caller == t.caller) ((s.call == t.call) && equal_marks s.mark t.mark) e in
    let calls = and_parts (s.call == t.call) (equal_marks s.mark t.mark) callers.1 in
    λ i. record { caller = eqb-true s.caller t.caller callers.0 i; call = eqb-true s.call t.call calls.0 i; mark = same_marks s.mark t.mark calls.1 i }

-- whether stamps go on with runs, by the last one
pub goes_on-last : (b : ℕ) (st : Stamp) (runs : List StampRun) (r : StampRun) → Some r ≡ slice_get runs (length runs - 1) → All HasBlocks runs → goes_on b st (expanded runs) ≡ ((r.first + r.count == b) && equal_stamps r.stamp st)
goes_on-last b st [] r e all = absurd (cc)
goes_on-last b st (s ∷ runs) r e all =
    let z : length (s ∷ runs) - 1 ≡ length runs = omega arith in
    let at : slice_get (s ∷ runs) (length runs) ≡ Some r = sym (e ∙ ap (slice_get (s ∷ runs)) z) in
    goes_on-expanded b st (s ∷ runs) (length runs) s refl all
    ∙ ap (λ (q : StampRun). (q.first + q.count == b) && equal_stamps q.stamp st) (get_or_from_slice_get (s ∷ runs) (length runs) r s at)

-- where stamps go on with runs there is one
pub goes_on-some : (b : ℕ) (st : Stamp) (runs : List StampRun) → goes_on b st (expanded runs) ≡ true → 0 < length runs
goes_on-some b st [] e = absurd (cc)
goes_on-some b st (r ∷ runs) e = omega arith

-- the last of these runs ends right before b, and n blocks more of its stamp are those from b on
pub lengthened : (b n : ℕ) (st : Stamp) (runs : List StampRun) (i : ℕ) (run : StampRun) → length runs ≡ suc i → run ≡ get_or runs i run → All HasBlocks runs → goes_on b st (expanded runs) ≡ true
    → (run.first + run.count ≡ b) × (expanded (set runs i (longer run n)) ≡ expanded runs ++ stamps_from b n st)
lengthened b n st runs i run h is all on =
    let last : StampRun = get_or runs i run in
    let both = and_parts (last.first + last.count == b) (equal_stamps last.stamp st) (sym (goes_on-expanded b st runs i run h all) ∙ on) in
    let end : last.first + last.count ≡ b = eqb-true (last.first + last.count) b both.0 in
    let same : last.stamp ≡ st = same_stamps last.stamp st both.1 in (
      ap (λ (r : StampRun). r.first + r.count) is ∙ end,
      ap (λ r. expanded (set runs i (longer r n))) is ∙ expanded-longer runs i n run h ∙ ap (λ c. expanded runs ++ stamps_from c n last.stamp) end ∙ ap (λ s. expanded runs ++ stamps_from b n s) same,
    )

module _ (P : ℕ × Stamp → Type 0) where
  -- what holds of the stamps of a run holds of each block's
  pub stamps_from-each : (b n i : ℕ) (st : Stamp) → All P (stamps_from b n st) → i < n → P (b + i, st)
  stamps_from-each b zero i st all l = absurd (omega arith)
  stamps_from-each b (suc n) zero st all l = let C : ℕ → Type 0 = λ c. P (c, st) in subst C (sym (add-zero b)) (all 0 (b, st) (omega arith))
  stamps_from-each b (suc n) (suc i) st all l =
      let z : b + 1 + i ≡ b + suc i = omega arith in
      let C : ℕ → Type 0 = λ c. P (c, st) in
      subst C z (stamps_from-each (b + 1) n i st (λ k d m. all (suc k) d (omega arith)) (omega arith))

  first_of : (xs ys : List (ℕ × Stamp)) → All P (xs ++ ys) → All P xs
  first_of [] ys all = λ k d l. absurd (omega arith)
  first_of (x ∷ xs) ys all = All-cons P x xs (all 0 x (omega arith)) (first_of xs ys (λ k d l. all (suc k) d (omega arith)))

  rest_of : (xs ys : List (ℕ × Stamp)) → All P (xs ++ ys) → All P ys
  rest_of [] ys all = all
  rest_of (x ∷ xs) ys all = rest_of xs ys (λ k d l. all (suc k) d (omega arith))

  -- and what holds of the stamps of runs, of each run's
  pub expanded-each : (runs : List StampRun) (i : ℕ) (d : StampRun) → All P (expanded runs) → i < length runs → All P (stamps_from (get_or runs i d).first (get_or runs i d).count (get_or runs i d).stamp)
  expanded-each [] i d all l = absurd (omega arith)
  expanded-each (r ∷ runs) zero d all l = first_of (stamps_from r.first r.count r.stamp) (expanded runs) all
  expanded-each (r ∷ runs) (suc i) d all l = expanded-each runs i d (rest_of (stamps_from r.first r.count r.stamp) (expanded runs) all) (omega arith)

-- one block more of a run has its stamp
pub run-more : (first f i n : ℕ) (st : Stamp) (ends now new : List BlockEnd) → All (IsOfRange first (length ends)) (stamps_from f n st) → i < n → now ≡ journaled first (stamps_from f i st) ends → new ≡ stamp_added (f - first + i) st now
    → new ≡ journaled first (stamps_from f (i + 1) st) ends
run-more first f i n st ends now new all l e m =
    let at : IsOfRange first (length ends) (f + i, st) = stamps_from-each (IsOfRange first (length ends)) f n i st all l in
    let begin : IsOfRange first (length ends) (f + 0, st) = stamps_from-each (IsOfRange first (length ends)) f n 0 st all (omega arith) in
    let place : f - first + i ≡ f + i - first = omega (arith, begin.low) in
    m ∙ ap (stamp_added (f - first + i) st) e ∙ ap (λ k. stamp_added k st (journaled first (stamps_from f i st) ends)) place
    ∙ sym (journaled-more first (f + i) (stamps_from f i st) st ends at.low at.high)
    ∙ ap (λ s. journaled first s ends) (sym (stamps_from-more f i st))
    ∙ ap (λ k. journaled first (stamps_from f k st) ends) (sym (add-one i))

-- one run more is in the journals
pub runs-more : (first i : ℕ) (runs : List StampRun) (d : StampRun) (ends now new : List BlockEnd) → i < length runs → now ≡ journaled first (expanded (take i runs)) ends
    → new ≡ journaled first (stamps_from (get_or runs i d).first (get_or runs i d).count (get_or runs i d).stamp) now → new ≡ journaled first (expanded (take (i + 1) runs)) ends
runs-more first i runs d ends now new l e n =
    let r : StampRun = get_or runs i d in
    n ∙ ap (journaled first (stamps_from r.first r.count r.stamp)) e
    ∙ sym (journaled-append first (expanded (take i runs)) (stamps_from r.first r.count r.stamp) ends)
    ∙ ap (λ s. journaled first s ends) (sym (expanded-more (take i runs) r))
    ∙ ap (λ rs. journaled first (expanded rs) ends) (sym (take-suc runs i d l))
    ∙ ap (λ k. journaled first (expanded (take k runs)) ends) (sym (add-one i))
