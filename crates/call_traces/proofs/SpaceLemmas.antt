-- How a block comes by space over a history, and how it keeps it.
use Rattle.std.proofs.Common.{◌≡◌, ℕ, ⊎_elim, Bool, true, false, ◌&&◌, ◌||◌, not, if◌then◌else◌, Option, Some, None, List, [], ◌∷◌, ◌++◌, is_some, refl, sym, ◌∙◌, ap}
use Rattle.std.specs.List.{list_any}
use Rattle.std.proofs.lemmas.Bool.{and_parts, eq-eqb, or_left, or_right}
use Rattle.iob_base.specs.declared.stamp.Stamp.{Stamp}
use Rattle.io_model.specs.Space.{keeps_kind, keeps_space, may_give_space}
use Rattle.io_model.specs.declared.file.Kind.{Kind}
use Rattle.io_model.specs.declared.file.Kind.TheVariants.{Hole, Delalloc, Unwritten, Mapped}
use Rattle.range_core.specs.Happened.{found_by, took_just}
use Rattle.range_core.specs.BlockStates.{state_by, taken_by, with_space}
use Rattle.range_core.specs.Spots.{in_run}
use Rattle.range_core.specs.declared.entry.Event.{Event}
use Rattle.range_core.specs.declared.entry.Event.TheVariants.{Preallocate}
use Rattle.range_core.specs.declared.entry.Outcome.{Outcome}
use Rattle.range_core.specs.declared.entry.Outcome.TheVariants.{Took}
use Rattle.range_core.specs.Lasting.{KeepsSector, is_unwiped}
use Rattle.range_core.proofs.SectorLemmas.{sectors_last}
use Rattle.call_traces.specs.BlockCalls.{gives_space, preallocates}
use Rattle.call_traces.proofs.CallJournals.{done-once, gives_back, wiped-shows}
use Rattle.range_core.specs.BlockStates.{BlockState, state_after, states_replayed}
use Rattle.range_core.specs.Happened.{fits_by, lawful_from}
use Rattle.range_core.specs.Kinds.{has_space}
use Rattle.range_core.specs.declared.entry.Entry.{Entry}
use Rattle.range_core.specs.declared.lending.Away.{Away}
use Rattle.call_traces.specs.BlockSpace.{AllocatedIsKept, CallsKeepAllocated, CallsKeepSpace, DirtyIsNoHole, SpaceWasGiven, given_after, is_given}
use Rattle.call_traces.specs.Journals.{journal_of}
use Rattle.call_traces.proofs.SpaceSteps.{IsGiven, by_space, claims, given_on, is_out_for_writeback}

-- through a history
given_through : (size b : ℕ) (s : BlockState) (history : List Entry) (given : Bool) → lawful_from size b s history ≡ true → IsGiven s given → IsGiven (states_replayed size b s history) (is_given size b given history)
given_through size b s [] given lawful i = i
given_through size b s (e ∷ history) given lawful i =
    let p = and_parts (fits_by size b e s) (lawful_from size b (state_after size b s e) history) lawful in
    given_through size b (state_after size b s e) history (given_after size b given e) p.1 (given_on size b s e.event e.outcome given p.0 i)

-- a clean block at home
at_first : (s : BlockState) → s.dirty ≡ false → s.away ≡ None → IsGiven s (has_space s.kind)
at_first s clean here = record {
  given_it = only (has_space s.kind) s.dirty s.away clean here;
  dirty = λ h. absurd (cc);
  out = away s.away here;
}
  where
    only : (space dirty : Bool) (o : Option Away) → dirty ≡ false → o ≡ None → claims space dirty o ≡ true → space ≡ true
    only true d o clean here e = refl
    only false true o clean here e = absurd (cc)
    only false false None clean here e = absurd (cc)
    only false false (Some a) clean here e = absurd (cc)

    away : (o : Option Away) → o ≡ None → is_out_for_writeback o ≡ true → has_space s.kind ≡ true
    away None here e = absurd (cc)
    away (Some a) here e = absurd (cc)

pub space_was_given : SpaceWasGiven
space_was_given size b s history lawful clean here space =
    let now : BlockState = states_replayed size b s history in
    (given_through size b s history (has_space s.kind) lawful (at_first s clean here)).given_it (by_space (has_space now.kind) now.dirty now.away space)

pub dirty_is_no_hole : DirtyIsNoHole
dirty_is_no_hole size b s history lawful clean here dirty = (given_through size b s history (has_space s.kind) lawful (at_first s clean here)).dirty dirty

-- kinds of a block that keeps its sector
same_number : (d e : ℕ) → Some d ≡ Some e → d ≡ e
same_number d e same = ap number same
  where
    number : Option ℕ → ℕ
    number None = d
    number (Some n) = n

kept_kind : (before now : Kind) → has_space before ≡ true → KeepsSector before now → keeps_kind before now ≡ true
kept_kind Hole now space k = absurd (cc)
kept_kind Delalloc now space k = absurd (cc)
kept_kind (Unwritten d) Hole space k = let n = k.number in absurd (cc)
kept_kind (Unwritten d) Delalloc space k = let n = k.number in absurd (cc)
kept_kind (Unwritten d) (Unwritten e) space k = eq-eqb d e (sym (same_number e d k.number))
kept_kind (Unwritten d) (Mapped e) space k = eq-eqb d e (sym (same_number e d k.number))
kept_kind (Mapped d) Hole space k = let n = k.number in absurd (cc)
kept_kind (Mapped d) Delalloc space k = let n = k.number in absurd (cc)
kept_kind (Mapped d) (Unwritten e) space k = let m = k.mapped refl in absurd (cc)
kept_kind (Mapped d) (Mapped e) space k = eq-eqb d e (sym (same_number e d k.number))

no_longer : (t : Bool) → not t ≡ false → t ≡ true
no_longer true e = refl
no_longer false e = absurd (cc)

pub calls_keep_space : CallsKeepSpace
calls_keep_space size f b calls s history lawful clean here works = at (has_space s.kind) (gives_back size calls b journal) (has_space now) refl refl refl
  where
    journal : List Stamp
    journal = journal_of size b history

    now : Kind
    now = (states_replayed size b s history).kind

    may : Bool
    may = list_any (may_give_space size f b) calls

    put : (before back after : Bool) → has_space s.kind ≡ before → gives_back size calls b journal ≡ back → has_space now ≡ after
        → (if before && not back then keeps_kind s.kind now else not after || may) ≡ true → keeps_space size calls f b s.kind now journal ≡ true
    put before back after p q r is =
        ap (λ t. if t && not (gives_back size calls b journal) then keeps_kind s.kind now else not (has_space now) || may) p
        ∙ ap (λ t. if before && not t then keeps_kind s.kind now else not (has_space now) || may) q
        ∙ ap (λ t. if before && not back then keeps_kind s.kind now else not t || may) r ∙ is

    -- it has other space only by a call
    other : has_space now ≡ true → (gives_back size calls b journal ≡ false → has_space s.kind ≡ true → may ≡ true) → may ≡ true
    other space none =
        ⊎_elim (λ (h : (gives_back size calls b journal ≡ false) × (has_space s.kind ≡ true)). none h.0 h.1) (λ (h : may ≡ true). h)
        (done-once size f b calls (λ e. gives_space size b e.event e.outcome) history (has_space s.kind) works (λ e is. is.given) (space_was_given size b s history lawful clean here space))

    at : (before back after : Bool) → has_space s.kind ≡ before → gives_back size calls b journal ≡ back → has_space now ≡ after → keeps_space size calls f b s.kind now journal ≡ true
    at true false after p q r =
        let unwiped = no_longer (is_unwiped b history) (sym (wiped-shows size f b calls history works) ∙ q) in
        put true false after p q r (kept_kind s.kind now p (sectors_last size b s history lawful unwiped p))
    at true true false p q r = put true true false p q r refl
    at true true true p q r = put true true true p q r (other r (λ none _. absurd (cc)))
    at false back false p q r = put false back false p q r refl
    at false back true p q r = put false back true p q r (other r (λ _ had. absurd (cc)))

-- a block of an allocated run has space
spaced : (t u : Bool) (o : Option ℕ) (s : BlockState) → t ≡ true → has_space s.kind ≡ u → took_just (t && not u) o ≡ true → has_space (with_space o s).kind ≡ true
spaced t u (Some d) s met had found = refl
spaced true true None s met had found = had
spaced true false None s met had found = absurd (cc)
spaced false u None s met had found = absurd (cc)

has_spaced : (size b : ℕ) (s : BlockState) (event : Event) (outcome : Outcome) → found_by size b event outcome s ≡ true → preallocates b event outcome ≡ true → has_space (state_by size b event outcome s).kind ≡ true
has_spaced size b s (Preallocate block n) (Took t) found met = spaced (in_run block n b) (has_space s.kind) (taken_by b t) s met refl found
has_spaced size b s event outcome found met = absurd (cc)

pub allocated_is_kept : AllocatedIsKept
allocated_is_kept size b s [] e later lawful met unwiped =
    let p = and_parts (fits_by size b e s) (lawful_from size b (state_after size b s e) later) lawful in
    let space = has_spaced size b s e.event e.outcome p.0 met in
    ap is_some (sectors_last size b (state_after size b s e) later p.1 unwiped space).number ∙ space
allocated_is_kept size b s (x ∷ earlier) e later lawful met unwiped =
    let p = and_parts (fits_by size b x s) (lawful_from size b (state_after size b s x) (earlier ++ e ∷ later)) lawful in
    allocated_is_kept size b (state_after size b s x) earlier e later p.1 met unwiped

pub calls_keep_allocated : CallsKeepAllocated
calls_keep_allocated size f b calls s earlier e later lawful met works = by (is_unwiped b later) refl
  where
    now : Bool
    now = has_space (states_replayed size b s (earlier ++ e ∷ later)).kind

    by : (t : Bool) → is_unwiped b later ≡ t → (now || gives_back size calls b (journal_of size b later)) ≡ true
    by true u = or_left now _ (allocated_is_kept size b s earlier e later lawful met u)
    by false u = or_right now _ (wiped-shows size f b calls later works ∙ ap not u)
