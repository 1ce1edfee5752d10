-- The entries of one call of a script, and the calls whose work a history is.
use Rattle.std.proofs.Common.{◌≡◌, ℕ, zero, suc, ◌+◌, ◌/◌, ◌<◌, Bool, true, false, ◌&&◌, ◌||◌, not, ◌==◌, if◌then◌else◌, Option, Some, None, List, [], ◌∷◌, All, length, refl, sym, ◌∙◌, ap, arith}
use Rattle.std.specs.Prelude.{nat_lt, slice_get}
use Rattle.std.specs.List.{cons_option, list_any}
use Rattle.std.proofs.lemmas.Bool.{and_parts, eqb-false, ltb-true, or_left, or_right}
use Rattle.std.proofs.lemmas.Bool.Decides.{nat_tests}
use Rattle.std.proofs.lemmas.List.Elements.{All-cons, All-head, All-nil, All-tail}
use Rattle.iob_base.specs.declared.stamp.Op.TheVariants.{Read, Write}
use Rattle.iob_base.specs.declared.stamp.Stamp.{Stamp}
use Rattle.iob_base.specs.declared.stamp.Tag.{Tag}
use Rattle.fault_device.specs.declared.lane.Done.{Done}
use Rattle.io_model.specs.Calls.{is_pwrite, is_write}
use Rattle.io_model.specs.Conversion.{is_done_write, is_wipe, was_done, wipes_whole}
use Rattle.io_model.specs.Lists.{is_some_and, numbered, same}
use Rattle.io_model.specs.Ranges.{Ranged}
use Rattle.io_model.specs.Space.{may_give_space}
use Rattle.io_model.specs.declared.file.Kind.{Kind}
use Rattle.turn_cell.specs.Stakes.{total}
use Rattle.range_core.specs.ByteRuns.{run_between}
use Rattle.range_core.specs.EntryCounts.{one_where}
use Rattle.range_core.specs.EntryStamps.{direct_stamps, failed_stamps, stamps_by, stamps_met, stamps_of}
use Rattle.range_core.specs.Kinds.{is_mapped}
use Rattle.range_core.specs.Lasting.{wipes, writes_to}
use Rattle.range_core.specs.Spots.{blocks_met, in_run, is_met}
use Rattle.range_core.specs.Stamps.{done_by, stamps_at, stamps_from}
use Rattle.range_core.specs.declared.entry.Entry.{Entry}
use Rattle.range_core.specs.declared.entry.Event.{Event}
use Rattle.range_core.specs.declared.entry.Event.TheVariants.{DaxPut, DirectBack, PartBack, Preallocate, Store, Wipe}
use Rattle.range_core.specs.declared.entry.Outcome.{Outcome}
use Rattle.range_core.specs.declared.entry.Outcome.TheVariants.{Counted, Finished, Took}
use Rattle.range_core.proofs.AfterRun.{in_run-bounds, in_run-true}
use Rattle.range_core.proofs.ChangeLemmas.{byte_run}
use Rattle.range_core.proofs.FoundLemmas.{met-run}
use Rattle.call_traces.specs.BlockCalls.{IsOfCalls, NoneStrays, OneCallsStrayNot, QuietStrayNot, gives_space, is_done_past, is_of_calls, only_if, strays, writes_past}

-- a stamp of a call that did its part
abbrev is_done : Stamp → Bool
is_done st = was_done st.mark

-- a run leaves such a stamp on each of its blocks
run-done : (b first n : ℕ) (by : Tag) → in_run first n b ≡ true → list_any is_done (stamps_at b (stamps_from first n (done_by by))) ≡ true
run-done b first zero by met = let p = in_run-bounds first 0 b met in absurd (omega (arith, p.0, p.1))
run-done b first (suc n) by met = at (first == b) refl (run-done b (first + 1) n by)
  where
    rest : List Stamp
    rest = stamps_at b (stamps_from (first + 1) n (done_by by))

    at : (t : Bool) → (first == b) ≡ t → (in_run (first + 1) n b ≡ true → list_any is_done rest ≡ true) → list_any is_done (cons_option (if first == b then Some (done_by by) else None) rest) ≡ true
    at true e more = ap (λ t. list_any is_done (cons_option (if t then Some (done_by by) else None) rest)) e
    at false e more =
        let p = in_run-bounds first (suc n) b met in
        let low = p.0 in
        let high = p.1 in
        let apart = eqb-false first b e in
        ap (λ t. list_any is_done (cons_option (if t then Some (done_by by) else None) rest)) e
        ∙ more (in_run-true (first + 1) n b (omega (arith, low, λ (h : b ≡ first). apart (sym h))) (omega (arith, high)))

-- and bytes on each block that has some of them
met-done : (size from to b : ℕ) (by : Tag) → 0 < size → is_met size from to b ≡ true → list_any is_done (stamps_at b (stamps_met size by from to)) ≡ true
met-done size from to b by some met = at (nat_lt from to) refl
  where
    at : (t : Bool) → nat_lt from to ≡ t → list_any is_done (stamps_at b (stamps_met size by from to)) ≡ true
    at true e = run-done b (from / size) (blocks_met size from to) by (sym (met-run (run_between size from to) (byte_run size from to some (ltb-true from to e)) b) ∙ met)
    at false e = let none : is_met size from to b ≡ false = grind (arith, nat_tests) in absurd (cc)

-- a transfer that did not fail leaves one on each of its blocks
direct-done : (b : ℕ) (by : Tag) (block : ℕ) (kind : Kind) (n : ℕ) (done : Done) → (in_run block n b && not done.failed) ≡ true → list_any is_done (stamps_at b (direct_stamps by Write block kind n done)) ≡ true
direct-done b by block kind n done met = at done.failed refl
  where
    left : Bool → Bool
    left failed = list_any is_done (stamps_at b (if failed then failed_stamps by Write block n (is_mapped kind) done.landed else stamps_from block n (done_by by)))

    at : (t : Bool) → done.failed ≡ t → left done.failed ≡ true
    at true e = let p = and_parts (in_run block n b) (not done.failed) met in absurd (cc)
    at false e = ap left e ∙ run-done b block n by (and_parts (in_run block n b) (not done.failed) met).0

-- what writes to a block, and what wipes it, leaves one there
write-done : (size b : ℕ) (event : Event) (outcome : Outcome) → 0 < size → writes_to size b event outcome ≡ true → list_any is_done (stamps_at b (stamps_by size event outcome)) ≡ true
write-done size b (Store by seen from to bytes) Finished some met = met-done size from to b by some met
write-done size b (DirectBack by Read ticket block kind pages done) outcome some met = absurd (cc)
write-done size b (DirectBack by Write ticket block kind pages done) Finished some met = direct-done b by block kind (length pages) done met
write-done size b (PartBack by ticket block kind from to bytes done) Finished some met = direct-done b by block kind 1 done met
write-done size b (DaxPut by seen from to bytes) (Took sectors) some met = met-done size from to b by some met
write-done size b event outcome some met = absurd (cc)

wipe-done : (size b : ℕ) (event : Event) (outcome : Outcome) → wipes b event outcome ≡ true → list_any is_done (stamps_at b (stamps_by size event outcome)) ≡ true
wipe-done size b (Wipe by block n) (Counted m) met = run-done b block n by met
wipe-done size b event outcome met = absurd (cc)

-- what is written past the cache is written
past-writes : (size b : ℕ) (event : Event) (outcome : Outcome) → writes_past size b event outcome ≡ true → writes_to size b event outcome ≡ true
past-writes size b (Store by seen from to bytes) outcome h = absurd (cc)
past-writes size b (DirectBack by Read ticket block kind pages done) outcome h = absurd (cc)
past-writes size b (DirectBack by Write ticket block kind pages done) outcome h = h
past-writes size b event outcome h = h

module _ {A : Type 0} (P : A → Type 0) (test other : A → Bool) where
  any-other : (xs : List A) → All P xs → ((x : A) → P x → test x ≡ true → other x ≡ true) → list_any test xs ≡ true → list_any other xs ≡ true
  any-other [] all more e = absurd (cc)
  any-other (x ∷ xs) all more e = at (test x) refl (any-other xs (All-tail P x xs all) more)
    where
      at : (t : Bool) → test x ≡ t → (list_any test xs ≡ true → list_any other xs ≡ true) → (other x || list_any other xs) ≡ true
      at true h rest = or_left (other x) (list_any other xs) (more x (All-head P x xs all) h)
      at false h rest = or_right (other x) (list_any other xs) (rest (sym (ap (λ t. t || list_any test xs) h) ∙ e))

module _ {A : Type 0} (test : A → Bool) where
  none-any : (P : A → Type 0) (xs : List A) → All P xs → ((x : A) → P x → test x ≡ false) → list_any test xs ≡ false
  none-any P [] all none = refl
  none-any P (x ∷ xs) all none = ap (λ t. t || list_any test xs) (none x (All-head P x xs all)) ∙ none-any P xs (All-tail P x xs all) none

  any-at : (xs : List A) (i : ℕ) (x : A) → slice_get xs i ≡ Some x → test x ≡ true → list_any test xs ≡ true
  any-at [] i x at e = absurd (cc)
  any-at (y ∷ xs) zero x at e = or_left (test y) (list_any test xs) (ap passes at ∙ e)
    where
      passes : Option A → Bool
      passes None = false
      passes (Some z) = test z
  any-at (y ∷ xs) (suc i) x at e = or_right (test y) (list_any test xs) (any-at xs i x at e)

  any-numbered : (xs : List A) (n : ℕ) (x : A) → numbered xs n ≡ Some x → test x ≡ true → list_any test xs ≡ true
  any-numbered xs zero x at e = absurd (cc)
  any-numbered xs (suc n) x at e = any-at xs n x at e

same-of : (t u : Bool) → t ≡ u → same t u ≡ true
same-of true u e = sym e
same-of false u e = ap not (sym e)

so-if : (so is : Bool) → (so ≡ true → is ≡ true) → only_if so is ≡ true
so-if true is h = h refl
so-if false is h = refl

both : (t u : Bool) → t ≡ true → u ≡ true → (t && u) ≡ true
both t u e f = ap (λ x. x && u) e ∙ f

pub one_calls_stray_not : OneCallsStrayNot
one_calls_stray_not size f b n calls r e some at of = ap (λ t. one_where (not t)) (both _ _ wiped (both _ _ written (both _ _ past given)))
  where
    left : List Stamp
    left = stamps_at b (stamps_of size e)

    OfIt : Stamp → Type 0
    OfIt st = st.call ≡ n

    -- what a stamp of the call tells of its call
    tells : (test : Ranged → Bool) (st : Stamp) → OfIt st → is_some_and (numbered calls st.call) test ≡ test r
    tells test st is = ap (λ m. is_some_and (numbered calls m) test) is ∙ ap (λ o. is_some_and o test) at

    wiped : same (list_any (is_wipe size calls b) left) (wipes b e.event e.outcome) ≡ true
    wiped = same-of _ _ (by (wipes b e.event e.outcome) refl (wipes_whole size b r) refl)
      where
        by : (w : Bool) → wipes b e.event e.outcome ≡ w → (v : Bool) → wipes_whole size b r ≡ v → list_any (is_wipe size calls b) left ≡ wipes b e.event e.outcome
        by true w v is = any-other OfIt is_done (is_wipe size calls b) left of.stamps (λ st here _. tells (wipes_whole size b) st here ∙ of.wipes_only w) (wipe-done size b e.event e.outcome w) ∙ sym w
        by false w true is = ap (list_any (is_wipe size calls b)) (of.only_wipes is w) ∙ sym w
        by false w false is = none-any (is_wipe size calls b) OfIt left of.stamps (λ st here. tells (wipes_whole size b) st here ∙ is) ∙ sym w

    done-write : (st : Stamp) → is_write r.call.verb ≡ true → OfIt st → is_done st ≡ true → is_done_write calls st ≡ true
    done-write st w here d = both (was_done st.mark) _ d (tells (λ x. is_write x.call.verb) st here ∙ w)

    written : only_if (writes_to size b e.event e.outcome) (list_any (is_done_write calls) left) ≡ true
    written = so-if _ _ (λ h. any-other OfIt is_done (is_done_write calls) left of.stamps (λ st here d. done-write st (of.writes h) here d) (write-done size b e.event e.outcome some h))

    past : only_if (writes_past size b e.event e.outcome) (list_any (is_done_past calls) left) ≡ true
    past = so-if _ _ (λ h.
        let to = past-writes size b e.event e.outcome h in
        any-other OfIt is_done (is_done_past calls) left of.stamps
        (λ st here d. both (is_done_write calls st) _ (done-write st (of.writes to) here d) (ap not (tells (λ x. is_pwrite x.call.verb) st here ∙ of.past h)))
        (write-done size b e.event e.outcome some to))

    given : only_if (gives_space size b e.event e.outcome) (list_any (may_give_space size f b) calls) ≡ true
    given = so-if _ _ (λ h. any-numbered (may_give_space size f b) calls n r at (of.space h))

-- what writes to a block gives it space
write-gives : (size b : ℕ) (event : Event) (outcome : Outcome) → writes_to size b event outcome ≡ true → gives_space size b event outcome ≡ true
write-gives size b (Preallocate block n) outcome h = absurd (cc)
write-gives size b event outcome h = h

pub quiet_stray_not : QuietStrayNot
quiet_stray_not size f b calls e bare kept none =
    ap (λ t. one_where (not t)) (both _ _ (same-of _ _ (ap (list_any (is_wipe size calls b)) bare ∙ sym kept)) (both _ _ (so-if _ _ never-written) (both _ _ (so-if _ _ (λ h. never-written (past-writes size b e.event e.outcome h))) (so-if _ _ never))))
  where
    never : {t : Bool} → gives_space size b e.event e.outcome ≡ true → t ≡ true
    never h = absurd (cc)

    never-written : {t : Bool} → writes_to size b e.event e.outcome ≡ true → t ≡ true
    never-written h = never (write-gives size b e.event e.outcome h)

-- and back
none-strays : (t : Bool) → one_where (not t) ≡ 0 → t ≡ true
none-strays true e = refl
none-strays false e = absurd (omega (arith, e))

same-is : (t u : Bool) → same t u ≡ true → t ≡ u
same-is true true e = refl
same-is true false e = absurd (cc)
same-is false true e = absurd (cc)
same-is false false e = refl

is-if : (so is : Bool) → only_if so is ≡ true → so ≡ true → is ≡ true
is-if true is e h = e
is-if false is e h = absurd (cc)

of-calls : (size f b : ℕ) (calls : List Ranged) (e : Entry) → is_of_calls size f b calls e ≡ true → IsOfCalls size f b calls e
of-calls size f b calls e is =
    let p = and_parts (same (list_any (is_wipe size calls b) (stamps_at b (stamps_of size e))) (wipes b e.event e.outcome)) _ is in
    let q = and_parts (only_if (writes_to size b e.event e.outcome) (list_any (is_done_write calls) (stamps_at b (stamps_of size e)))) _ p.1 in
    let r = and_parts (only_if (writes_past size b e.event e.outcome) (list_any (is_done_past calls) (stamps_at b (stamps_of size e)))) _ q.1 in
    record { wiped = same-is _ _ p.0; written = is-if _ _ q.0; past = is-if _ _ r.0; given = is-if _ _ r.1 }

pub none_strays : NoneStrays
none_strays size f b calls [] none = All-nil (IsOfCalls size f b calls)
none_strays size f b calls (e ∷ history) none =
    let first : strays size f b calls e ≡ 0 = omega (arith, none) in
    let rest : total (strays size f b calls) history ≡ 0 = omega (arith, none) in
    All-cons (IsOfCalls size f b calls) e history (of-calls size f b calls e (none-strays (is_of_calls size f b calls e) first)) (none_strays size f b calls history rest)
