-- Promises of space that entries make and settle.
use Rattle.std.proofs.Common.{◌≡◌, ℕ, Bool, true, false, not, List, [], ◌∷◌, ◌++◌, if◌then◌else◌, refl, sym, ap, ◌∙◌, subst}
use Rattle.std.specs.Prelude.{◌&&◌, ◌||◌, All, IsTrue}
use Rattle.std.proofs.lemmas.Bool.{false≢true}
use Rattle.std.proofs.lemmas.List.Elements.{All-head, All-tail}
use Rattle.io_model.specs.declared.file.Extent.{Extent}
use Rattle.io_model.specs.declared.file.Kind.TheVariants.{Delalloc}
use Rattle.range_core.specs.BlockStates.{BlockState, becomes_dirty, becomes_hole, becomes_uptodate, is_zero_already, lent_for, read_back, state_by, states_replayed}
use Rattle.range_core.specs.Kinds.{is_delalloc}
use Rattle.range_core.specs.Spots.{in_run, is_met}
use Rattle.range_core.specs.declared.entry.Entry.{Entry}
use Rattle.range_core.specs.declared.entry.Event.{Event}
use Rattle.range_core.specs.declared.entry.Event.TheVariants as event
use Rattle.range_core.specs.declared.entry.Outcome.{Outcome}
use Rattle.range_core.specs.declared.entry.Outcome.TheVariants.{Counted, Finished, Lending, Sampled}
use Rattle.range_core.specs.declared.lending.Lender.TheVariants.{Reading}
use Rattle.range_core.specs.declared.sample.Sample.{Sample}
use Rattle.call_parts.specs.LeftPromises.{KeepsNoPromise, keeps_dirty, left_owed, owed_after, promises_to, settles}
use Rattle.call_parts.specs.Promises.{Promised, PromisedNone, TookBackFrom, is_promise}

-- either way of a test
either : (P : BlockState → Type 0) (t : Bool) (s z : BlockState) → (t ≡ true → P s) → (t ≡ false → P z) → P (if t then s else z)
either P true s z when otherwise = when refl
either P false s z when otherwise = otherwise refl

-- a block without a promise that is not needed keeps none
unneeded-none : (s : BlockState) → (is_delalloc s.kind && not s.dirty) ≡ false → KeepsNoPromise s
unneeded-none s none promised = at s.dirty (subst (λ t. (t && not s.dirty) ≡ false) promised none)
  where
    at : (d : Bool) → not d ≡ false → d ≡ true
    at true e = refl
    at false e = absurd (false≢true (sym e))

returned-none : (s : BlockState) → KeepsNoPromise (if (is_delalloc s.kind && not s.dirty) then becomes_hole s else s)
returned-none s = either KeepsNoPromise (is_delalloc s.kind && not s.dirty) (becomes_hole s) s (λ _ promised. absurd (false≢true promised)) (unneeded-none s)

-- after each event that came about, a block to which no promise is owed has none
after-one : (size b : ℕ) (e : Event) (o : Outcome) (s : BlockState) (owed : Bool) → IsTrue (keeps_dirty e) → (owed ≡ false → KeepsNoPromise s) → (not (settles size b e o) && (promises_to b e o || owed)) ≡ false → KeepsNoPromise (state_by size b e o s)
after-one size b (event.Reserve seen blocks) (Sampled sample) s owed may before is = at (in_run sample.extent.block sample.extent.length b) is
  where
    at : (t : Bool) → (t || owed) ≡ false → KeepsNoPromise (if t then record s { kind = Delalloc } else s)
    at true e = absurd (false≢true (sym e))
    at false e = before e
after-one size b (event.Unreserve block blocks) (Counted n) s owed may before is = at (in_run block blocks b) is
  where
    at : (t : Bool) → (not t && owed) ≡ false → KeepsNoPromise (if (t && (is_delalloc s.kind && not s.dirty)) then becomes_hole s else s)
    at true e = returned-none s
    at false e = before e
after-one size b (event.Store by seen from to bytes) Finished s owed may before is = at (is_met size from to b) is
  where
    at : (t : Bool) → (not t && owed) ≡ false → KeepsNoPromise (if t then becomes_dirty s else s)
    at true e = λ _. refl
    at false e = before e
after-one size b (event.StoreZeros by seen from to) Finished s owed may before is =
    either KeepsNoPromise (is_met size from to b && not (is_zero_already s)) (becomes_dirty s) s (λ _ _. refl) (λ _. before is)
after-one size b (event.Fetch by from to) Finished s owed may before is = either KeepsNoPromise (is_met size from to b) (becomes_uptodate s) s (λ _. before is) (λ _. before is)
after-one size b (event.LendRead block most) (Lending ticket n) s owed may before is = either KeepsNoPromise (in_run block n b) (lent_for Reading ticket s) s (λ _. before is) (λ _. before is)
after-one size b (event.FillBack ticket block n done) Finished s owed may before is = either KeepsNoPromise (in_run block n b) (read_back done.failed s) s (λ _. at done.failed) (λ _. before is)
  where
    at : (f : Bool) → KeepsNoPromise (read_back f s)
    at true = before is
    at false = before is
after-one size b (event.Reserve seen blocks) o s owed may before is = before is
after-one size b (event.Unreserve block blocks) o s owed may before is = before is
after-one size b (event.Store by seen from to bytes) o s owed may before is = before is
after-one size b (event.StoreZeros by seen from to) o s owed may before is = before is
after-one size b (event.Fetch by from to) o s owed may before is = before is
after-one size b (event.LendRead block most) o s owed may before is = before is
after-one size b (event.FillBack ticket block n done) o s owed may before is = before is
after-one size b (event.Sample block most) o s owed may before is = before is
after-one size b e o s owed may before is = absurd (false≢true may)

-- entries after which no promise to a block is owed leave none there
pub none-left : (size b : ℕ) (entries : List Entry) (s : BlockState) (owed : Bool) → All (λ e. IsTrue (keeps_dirty e.event)) entries → (owed ≡ false → KeepsNoPromise s) → left_owed size b owed entries ≡ false → KeepsNoPromise (states_replayed size b s entries)
none-left size b [] s owed may before is = before is
none-left size b (e ∷ entries) s owed may before is =
    none-left size b entries (state_by size b e.event e.outcome s) (owed_after size b owed e) (All-tail (λ (x : Entry). IsTrue (keeps_dirty x.event)) e entries may)
    (after-one size b e.event e.outcome s owed (All-head (λ (x : Entry). IsTrue (keeps_dirty x.event)) e entries may) before) is

pub left_owed-append : (size b : ℕ) (owed : Bool) (entries more : List Entry) → left_owed size b owed (entries ++ more) ≡ left_owed size b (left_owed size b owed entries) more
left_owed-append size b owed [] more = refl
left_owed-append size b owed (e ∷ entries) more = left_owed-append size b (owed_after size b owed e) entries more

-- an entry that promised no space promised none to a block
promised-none-to : (b : ℕ) (e : Event) (o : Outcome) → is_promise e o ≡ false → promises_to b e o ≡ false
promised-none-to b (event.Reserve seen blocks) (Sampled sample) none = absurd (false≢true (sym none))
promised-none-to b e o none = refl

-- where no promise was made and none was owed, none is
none-owed : (t p : Bool) → p ≡ false → (not t && (p || false)) ≡ false
none-owed true p none = refl
none-owed false p none = (λ i. none i || false)

pub vain-leaves : (size b : ℕ) (entries : List Entry) → All PromisedNone entries → left_owed size b false entries ≡ false
vain-leaves size b [] none = refl
vain-leaves size b (e ∷ entries) none =
    ap (λ t. left_owed size b t entries) (none-owed (settles size b e.event e.outcome) (promises_to b e.event e.outcome) (promised-none-to b e.event e.outcome (All-head PromisedNone e entries none)))
    ∙ vain-leaves size b entries (All-tail PromisedNone e entries none)

-- a begin leaves promises owed only to the blocks of a new mapping
or-none : (t : Bool) → (t || false) ≡ t
or-none true = refl
or-none false = refl

pub begin-leaves : (size b : ℕ) (new : Bool) (sample : Sample) (entries : List Entry) → Promised new sample entries → left_owed size b false entries ≡ (new && in_run sample.extent.block sample.extent.length b)
begin-leaves size b false sample entries none = vain-leaves size b entries none
begin-leaves size b true sample entries last =
    let run = in_run sample.extent.block sample.extent.length b in
    let e = last.last in
    ap (left_owed size b false) last.entries_are
    ∙ left_owed-append size b false last.before (e ∷ [])
    ∙ ap (λ t. owed_after size b t e) (vain-leaves size b last.before last.none)
    ∙ (λ i. not (settles size b (last.event_is i) (last.gave i)) && (promises_to b (last.event_is i) (last.gave i) || false))
    ∙ or-none run

-- an end that takes promises back leaves none owed to the blocks of its mapping, and makes none
pub end-settles : (size b : ℕ) (owed : Bool) (extent : Extent) (entries : List Entry) → TookBackFrom extent entries → in_run extent.block extent.length b ≡ true → left_owed size b owed entries ≡ false
end-settles size b owed extent entries took here =
    ap (left_owed size b owed) took.entries_are
    ∙ (λ i. not (settles size b (took.event_is i) (took.outcome_is i)) && (promises_to b (took.event_is i) (took.outcome_is i) || owed))
    ∙ ap (λ t. not t && owed) here

pub end-owes_none : (size b : ℕ) (extent : Extent) (entries : List Entry) → TookBackFrom extent entries → left_owed size b false entries ≡ false
end-owes_none size b extent entries took =
    ap (left_owed size b false) took.entries_are
    ∙ (λ i. not (settles size b (took.event_is i) (took.outcome_is i)) && (promises_to b (took.event_is i) (took.outcome_is i) || false))
    ∙ none-owed (in_run extent.block extent.length b) false refl
