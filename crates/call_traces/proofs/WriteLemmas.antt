-- What was written of a block that is mapped.
use Rattle.std.proofs.Common.{◌≡◌, ℕ, zero, suc, ◌+◌, ⊎_elim, Bool, true, false, ◌&&◌, ◌||◌, not, if◌then◌else◌, List, [], ◌∷◌, refl, sym, ◌∙◌, ap, arith}
use Rattle.std.specs.Prelude.{slice_get}
use Rattle.std.specs.List.{filter, fold, list_all, list_any}
use Rattle.std.proofs.lemmas.Bool.{or_left, or_right}
use Rattle.iob_base.specs.declared.stamp.Op.TheVariants.{Read, Write}
use Rattle.iob_base.specs.declared.stamp.Stamp.{Stamp}
use Rattle.io_model.specs.Contents.{extents_of}
use Rattle.io_model.specs.Conversion.{after_wipes, has_good_writeback, is_cached_write, is_converted, is_done_write}
use Rattle.io_model.specs.Kinds.{kind_at}
use Rattle.io_model.specs.Ranges.{Ranged, ranged_calls}
use Rattle.io_model.specs.declared.file.Kind.{Kind}
use Rattle.turn_cell.specs.Stakes.{total}
use Rattle.range_core.specs.BlockStates.{BlockState, becomes_hole, state_after, state_by, states_replayed}
use Rattle.range_core.specs.Conversions.{writes_out}
use Rattle.range_core.specs.EntryCounts.{has_failed_back, one_where}
use Rattle.range_core.specs.Kinds.{is_mapped}
use Rattle.range_core.specs.Lasting.{wipes, writes_to}
use Rattle.range_core.specs.Spots.{in_run}
use Rattle.range_core.specs.declared.entry.Entry.{Entry}
use Rattle.range_core.specs.declared.entry.Event.{Event}
use Rattle.range_core.specs.declared.entry.Event.TheVariants.{DirectBack, Wipe, WrittenBack}
use Rattle.range_core.specs.declared.entry.Outcome.{Outcome}
use Rattle.range_core.specs.declared.entry.Outcome.TheVariants.{Counted}
use Rattle.range_core.proofs.ConversionLemmas.{only_writes_map}
use Rattle.range_core.proofs.WrittenLemmas.{mapped_was_written}
use Rattle.call_traces.specs.BlockCalls.{has_returned, has_written_back, is_done_past, writebacks, writes_past}
use Rattle.call_traces.specs.BlockWrites.{CallsConvert, MappedWasPut, ReturnsAddUp, is_put, put_after}
use Rattle.call_traces.specs.Journals.{journal_of}
use Rattle.call_traces.proofs.CallJournals.{done-shows, gives_back}

-- a block that is wiped is not mapped
emptied : {A : Type 0} (t : Bool) (s : BlockState) → t ≡ true → is_mapped (if t then becomes_hole s else s).kind ≡ true → A
emptied true s e now = absurd (cc)
emptied false s e now = absurd (cc)

wiped-unmapped : {A : Type 0} (size b : ℕ) (s : BlockState) (event : Event) (outcome : Outcome) → wipes b event outcome ≡ true → is_mapped (state_by size b event outcome s).kind ≡ true → A
wiped-unmapped size b s (Wipe by block n) (Counted m) e now = emptied (in_run block n b) s e now
wiped-unmapped size b s event outcome e now = absurd (cc)

-- an entry after which a block is mapped did not wipe it, and wrote it out where it was not mapped before
put-on : (size b : ℕ) (s : BlockState) (e : Entry) (before : Bool) → (is_mapped s.kind ≡ true → before ≡ true) → is_mapped (state_after size b s e).kind ≡ true → put_after size b before e ≡ true
put-on size b s e before was now = at (wipes b e.event e.outcome) refl (is_mapped s.kind) refl
  where
    out : Bool
    out = writes_out size b e.event e.outcome

    at : (w : Bool) → wipes b e.event e.outcome ≡ w → (m : Bool) → is_mapped s.kind ≡ m → put_after size b before e ≡ true
    at true w m p = wiped-unmapped size b s e.event e.outcome w now
    at false w true p = ap (λ t. not t && (out || before)) w ∙ or_right out before (was p)
    at false w false p = ap (λ t. not t && (out || before)) w ∙ or_left out before (only_writes_map size b s e p now)

put-through : (size b : ℕ) (s : BlockState) (history : List Entry) (before : Bool) → (is_mapped s.kind ≡ true → before ≡ true) → is_mapped (states_replayed size b s history).kind ≡ true → is_put size b before history ≡ true
put-through size b s [] before was now = was now
put-through size b s (e ∷ history) before was now = put-through size b (state_after size b s e) history (put_after size b before e) (put-on size b s e before was) now

pub mapped_was_put : MappedWasPut
mapped_was_put size b s history now = put-through size b s history (is_mapped s.kind) (λ h. h) now

-- a writeback that came back failed or did not
one-returned : (event : Event) (outcome : Outcome) → one_where (has_returned event outcome) ≡ one_where (has_failed_back event outcome) + one_where (has_written_back event outcome)
one-returned (WrittenBack ticket block kind n done) (Counted m) = at done.failed
  where
    at : (t : Bool) → 1 ≡ one_where t + one_where (not t)
    at true = refl
    at false = refl
one-returned event outcome = refl

pub returns_add_up : ReturnsAddUp
returns_add_up [] = refl
returns_add_up (e ∷ history) = omega (arith, one-returned e.event e.outcome, returns_add_up history)

-- where no writeback came back that did not fail, what was written out went past the cache
out-past : (size b : ℕ) (event : Event) (outcome : Outcome) → one_where (has_written_back event outcome) ≡ 0 → writes_out size b event outcome ≡ writes_past size b event outcome
out-past size b (WrittenBack ticket block kind n done) (Counted m) none = at done.failed (in_run block n b) none
  where
    at : (failed here : Bool) → one_where (not failed) ≡ 0 → (here && not failed) ≡ false
    at true true none = refl
    at true false none = refl
    at false here none = absurd (omega (arith, none))
out-past size b (DirectBack by Read ticket block kind pages done) outcome none = refl
out-past size b (DirectBack by Write ticket block kind pages done) outcome none = refl
out-past size b event outcome none = refl

past-alike : (size b : ℕ) (history : List Entry) (before : Bool) → total writebacks history ≡ 0 → is_put size b before history ≡ fold (λ t e. not (wipes b e.event e.outcome) && (writes_past size b e.event e.outcome || t)) before history
past-alike size b [] before none = refl
past-alike size b (e ∷ history) before none =
    let first : writebacks e ≡ 0 = omega (arith, none) in
    let rest : total writebacks history ≡ 0 = omega (arith, none) in
    past-alike size b history (put_after size b before e) rest
    ∙ ap (λ t. fold (λ u x. not (wipes b x.event x.outcome) && (writes_past size b x.event x.outcome || u)) (not (wipes b e.event e.outcome) && (t || before)) history) (out-past size b e.event e.outcome first)

-- where some stamp of a write was left past the cache, not all such were left by way of it
not-all-cached : (done cached : Stamp → Bool) (stamps : List Stamp) → list_any (λ st. done st && not (cached st)) stamps ≡ true → list_all cached (filter done stamps) ≡ false
not-all-cached done cached [] e = absurd (cc)
not-all-cached done cached (st ∷ stamps) e = at (done st) refl (cached st) refl e (not-all-cached done cached stamps)
  where
    more : Bool
    more = list_any (λ x. done x && not (cached x)) stamps

    kept : List Stamp
    kept = filter done stamps

    front : Bool → Bool
    front d = list_all cached (if d then st ∷ kept else kept)

    at : (d : Bool) → done st ≡ d → (c : Bool) → cached st ≡ c → ((done st && not (cached st)) || more) ≡ true → (more ≡ true → list_all cached kept ≡ false) → front (done st) ≡ false
    at false p c q h rest = ap front p ∙ rest (sym (ap (λ t. (t && not (cached st)) || more) p) ∙ h)
    at true p false q h rest = ap front p ∙ ap (λ t. t && list_all cached kept) q
    at true p true q h rest = ap front p ∙ ap (λ t. t && list_all cached kept) q ∙ rest (sym (ap (λ t. (t && not (cached st)) || more) p ∙ ap (λ t. (true && not t) || more) q) ∙ h)

pub calls_convert : CallsConvert
calls_convert script run f b s history lawful clean here kind works good = at (is_mapped now) refl
  where
    size : ℕ
    size = script.geometry.block_size

    calls : List Ranged
    calls = ranged_calls script run

    now : Kind
    now = (states_replayed size b s history).kind

    journal : List Stamp
    journal = journal_of size b history

    Shown : Type 0
    Shown = is_converted script run f b journal ≡ true

    unwiped : gives_back size calls b journal ≡ false → is_mapped s.kind ≡ true → Shown
    unwiped none was = or_left _ _ (ap (λ t. not t && is_mapped (kind_at (extents_of (slice_get script.files f)) b)) none ∙ ap is_mapped (sym kind) ∙ was)

    written : list_any (is_done_write calls) (after_wipes size calls b journal) ≡ true
        → (not (list_all (is_cached_write calls) (filter (is_done_write calls) (after_wipes size calls b journal))) || has_good_writeback script run f) ≡ true → Shown
    written some back = or_right _ _ (ap (λ t. t && (not (list_all (is_cached_write calls) (filter (is_done_write calls) (after_wipes size calls b journal))) || has_good_writeback script run f)) some ∙ back)

    past : is_mapped now ≡ true → list_any (is_done_write calls) (after_wipes size calls b journal) ≡ true → (n : ℕ) → total writebacks history ≡ n → Shown
    past mapped some zero none =
        ⊎_elim (λ (h : (gives_back size calls b journal ≡ false) × (is_mapped s.kind ≡ true)). unwiped h.0 h.1)
        (λ (h : list_any (is_done_past calls) (after_wipes size calls b journal) ≡ true). written some (or_left _ _ (ap not (not-all-cached (is_done_write calls) (is_cached_write calls) (after_wipes size calls b journal) h))))
        (done-shows size f b calls (λ e. writes_past size b e.event e.outcome) (is_done_past calls) history (is_mapped s.kind) works (λ e is. is.past) (sym (past-alike size b history (is_mapped s.kind) none) ∙ mapped_was_put size b s history mapped))
    past mapped some (suc n) more = written some (or_right _ _ (good (omega (arith, more))))

    at : (t : Bool) → is_mapped now ≡ t → (not (is_mapped now) || is_converted script run f b journal) ≡ true
    at false m = or_left _ _ (ap not m)
    at true m = or_right _ _ (
        ⊎_elim (λ (h : (gives_back size calls b journal ≡ false) × (is_mapped s.kind ≡ true)). unwiped h.0 h.1)
        (λ (h : list_any (is_done_write calls) (after_wipes size calls b journal) ≡ true). past m h (total writebacks history) refl)
        (done-shows size f b calls (λ e. writes_to size b e.event e.outcome) (is_done_write calls) history (is_mapped s.kind) works (λ e is. is.written) (mapped_was_written size b s history lawful clean here m)))
