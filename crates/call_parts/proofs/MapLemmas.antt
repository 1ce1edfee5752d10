-- The turns that map a range of a file, and those that end a mapping, are a step of a call.
use Rattle.std.proofs.Common.{◌≡◌, ℕ, zero, suc, ◌+◌, ◌*◌, ◌<◌, inl, inr, Bool, true, false, List, [], ◌∷◌, ◌++◌, length, Some, None, Option, Ok, Err, refl, sym, ap, ◌∙◌, subst, arith, append_assoc, append-nil}
use Rattle.std.specs.Prelude.{◌⊎◌, ◌&&◌, All, IfSome, IsSomeAnd, IsTrue, MatchOption, Result, slice_get}
use Rattle.std.proofs.lemmas.Bool.{false≢true}
use Rattle.std.proofs.lemmas.List.Elements.{All-append, All-cons, All-nil}
use Rattle.iob_base.specs.declared.answer.Fault.{Fault}
use Rattle.iob_base.specs.declared.stamp.FileId.{FileId}
use Rattle.io_model.specs.declared.file.Extent.{Extent}
use Rattle.io_model.specs.declared.file.Kind.TheVariants.{Hole}
use Rattle.fault_device.specs.LaneView.{LaneView}
use Rattle.iomap_core.specs.IterView.{IterView, began}
use Rattle.iomap_core.specs.Mappings.{IsBegun}
use Rattle.iomap_core.specs.declared.mapping.Flags.{Flags}
use Rattle.iomap_core.specs.declared.mapping.Iomap.{Iomap}
use Rattle.iomap_core.specs.declared.ops.BeginFault.{BeginFault}
use Rattle.iomap_core.specs.declared.ops.BeginFault.TheVariants as begin
use Rattle.turn_cell.specs.Views.{SeatView}
use Rattle.range_core.specs.EntryCounts.{has_lent, one_where}
use Rattle.range_core.specs.Kinds.{is_hole}
use Rattle.range_core.specs.KnownSamples.{WasGiven}
use Rattle.range_core.specs.Reserves.{reserve_outcome}
use Rattle.range_core.specs.declared.entry.Entry.{Entry}
use Rattle.range_core.specs.declared.entry.Event.{Event}
use Rattle.range_core.specs.declared.entry.Event.TheVariants as event
use Rattle.range_core.specs.declared.entry.Outcome.{Outcome}
use Rattle.range_core.specs.declared.entry.Outcome.TheVariants.{Counted, Refused, Sampled}
use Rattle.range_core.specs.declared.fault.EventFault.{EventFault}
use Rattle.range_core.specs.declared.fault.EventFault.TheVariants as refusal
use Rattle.range_core.specs.declared.sample.Sample.{Sample}
use Rattle.mount_parts.specs.MountView.{HasBlock, MountView, file_at, stripe_at}
use Rattle.mount_parts.proofs.Places.{set-same}
use Rattle.mini_fs.specs.Acts.{Act, HasTurned, own_entries}
use Rattle.mini_fs.specs.Acts.Act.{Note, Turn}
use Rattle.mini_fs.specs.CallActs.{IsActAt, loans_in}
use Rattle.mini_fs.specs.MapTurns.{MakesTurn, MakesTurns, MapTurn, turns_of}
use Rattle.mini_fs.specs.MapTurns.MapTurn.{Look, Place, Promise, TakeBack}
use Rattle.mini_fs.specs.Mappings.{AnswersPromise, Begins, EndsWrite, Ends, IsGivenAt, IsLook, IsOpen, IsWrite, LiesInStripe, NotesBegun, StaleTry, TakesBack, Tells, begin_fault, begun_of, blocks_asked, file_end, leaves_promises, mapping_of, no_flags, stale_turns, with_begun, write_flags, zero_flags}
use Rattle.mini_fs.specs.PageTurns.{entry_by}
use Rattle.mini_fs.specs.PassView.{IsPassOf, PassView}
use Rattle.mini_fs.specs.Tickets.{IsTicketOf, KeepsTickets}
use Rattle.mini_fs.specs.Turns.{block_at}
use Rattle.mini_fs.specs.declared.begun.Begun.{Begun}
use Rattle.mini_fs.proofs.ActLemmas.{turned-act}
use Rattle.mini_fs.proofs.CallLemmas.{loans-append, own_entries-append}
use Rattle.mini_fs.proofs.MapBlocks.{block-within}
use Rattle.mini_fs.proofs.MapSteps.{look-given, look-starts}
use Rattle.mini_fs.proofs.Opens.{of-noted, open-lies}
use Rattle.mini_fs.proofs.Seats.{of-with_seat, tickets-with_seat}
use Rattle.call_parts.specs.Causes.{IsCaused}
use Rattle.call_parts.specs.Maps.{GivesBack, Maps, MapsNone, mapping_fault, maps}
use Rattle.call_parts.specs.Promises.{Promised, PromisedNone, TookBack, is_promise}
use Rattle.call_parts.specs.Steps.{IsPlaced, ServedBy, Steps, done_of, is_quiet}
use Rattle.call_parts.proofs.SpaceLemmas.{ShortOf, promise-short}
use Rattle.call_parts.proofs.StepLemmas.{caused-right, quiet-act, served-none, steps-none, steps-then}

-- the block at whose stripe a turn is made
abbrev pub block_of : MapTurn → ℕ
block_of (Look b most sample) = b
block_of (Promise seen n answer) = seen.extent.block
block_of (Place b n answer) = b
block_of (TakeBack b n count) = b

-- the event of a turn
abbrev pub event_of : MapTurn → Event
event_of (Look b most sample) = event.Sample b most
event_of (Promise seen n answer) = event.Reserve seen n
event_of (Place b n answer) = event.Preallocate b n
event_of (TakeBack b n count) = event.Unreserve b n

-- looks, promises and what gives space to blocks leave no stamps
turn-quiet : (t : MapTurn) → IsTrue (is_quiet (event_of t))
turn-quiet (Look b most sample) = refl
turn-quiet (Promise seen n answer) = refl
turn-quiet (Place b n answer) = refl
turn-quiet (TakeBack b n count) = refl

-- what a look, a promise or a return of promises came to
abbrev pub CameTo : MapTurn → Outcome → Type 0
CameTo (Look b most sample) o = o ≡ Sampled sample
CameTo (Promise seen n answer) o = o ≡ reserve_outcome answer
CameTo (Place b n answer) o = Unit {0}
CameTo (TakeBack b n count) o = o ≡ Counted count

-- A turn is one act of the pass, which lends nothing and takes nothing back
pub record IsOneAct (m : MountView) (file : FileId) (t : MapTurn) (p q : PassView) : Type 0 where
  pub others : List Entry
  pub own : Entry
  pub did : HasTurned (stripe_at m file (block_of t)) others own p q
  pub caller : own.caller ≡ p.caller
  pub event_is : own.event ≡ event_of t
  pub came : CameTo t own.outcome
  pub lent : has_lent own.outcome ≡ false
  pub gave : done_of own.event own.outcome ≡ []

entry-act : (m : MountView) (file : FileId) (t : MapTurn) (p q : PassView) (others : List Entry) (own : Entry) (o : Outcome) → HasTurned (stripe_at m file (block_of t)) others own p q → own ≡ entry_by p.caller (event_of t) o
    → CameTo t o → has_lent o ≡ false → done_of (event_of t) o ≡ [] → IsOneAct m file t p q
entry-act m file t p q others own o did is came lent gave = record {
  others = others;
  own = own;
  did = did;
  caller = ap (λ (e : Entry). e.caller) is;
  event_is = ap (λ (e : Entry). e.event) is;
  came = subst (λ (e : Entry). CameTo t e.outcome) (sym is) came;
  lent = ap (λ (e : Entry). has_lent e.outcome) is ∙ lent;
  gave = ap (λ (e : Entry). done_of e.event e.outcome) is ∙ gave;
}

one-act : (m : MountView) (file : FileId) (t : MapTurn) (p q : PassView) → MakesTurn m file t p q → IsOneAct m file t p q
one-act m file (Look b most sample) p q t = entry-act m file (Look b most sample) p q t.turned.others t.turned.entry (Sampled sample) (turned-act t) t.turned.done.entry_is refl refl refl
one-act m file (Promise seen n (Ok promised)) p q t = entry-act m file (Promise seen n (Ok promised)) p q t.turned.others t.turned.entry (Sampled promised) (turned-act t) t.turned.done.entry_is refl refl refl
one-act m file (Promise seen n (Err fault)) p q t = entry-act m file (Promise seen n (Err fault)) p q t.turned.others t.turned.entry (Refused fault) (turned-act t) t.turned.done.entry_is refl refl refl
one-act m file (Place b n (Ok taken)) p q t = entry-act m file (Place b n (Ok taken)) p q t.turned.others t.turned.entry _ (turned-act t) t.turned.done.ok.entry_is tt refl refl
one-act m file (Place b n (Err fault)) p q t = entry-act m file (Place b n (Err fault)) p q t.turned.others t.turned.entry (Refused fault) (turned-act t) t.turned.done.err.entry_is tt refl refl
one-act m file (TakeBack b n count) p q t = entry-act m file (TakeBack b n count) p q t.turned.others t.turned.entry (Counted count) (turned-act t) t.turned.done.entry_is refl refl refl

-- an entry that a turn made stands last in what the pass has seen, so the pass was given its sample
at-end : {A : Type 0} (xs : List A) (x : A) → slice_get (xs ++ x ∷ []) (length xs) ≡ Some x
at-end [] x = refl
at-end (y ∷ xs) x = at-end xs x

turned-given : (stripe : ℕ) (others : List Entry) (own : Entry) (p q : PassView) (sample : Sample) → HasTurned stripe others own p q → own.outcome ≡ Sampled sample → IsGivenAt q stripe sample
turned-given stripe others own p q sample did gave =
    let before = did.before.seen ++ others in
    let here : slice_get q.stripes stripe ≡ Some did.after = ap (λ (v : PassView). slice_get v.stripes stripe) did.pass_is ∙ set-same p.stripes stripe did.before did.after did.here in
    let given : WasGiven sample did.after.seen = record { place = length before; entry = own; here = ap (λ l. slice_get l (length before)) did.seen ∙ at-end before own; gave = gave } in
    subst (λ o. IsSomeAnd o (λ (x : SeatView Entry). WasGiven sample x.seen)) (sym here) given

-- Turns that map a range are acts of a step, whatever lane the call has, and the mapping that the pass began stays
pub record AreTurns (m : MountView) (file : FileId) (may : Event → Bool) (p q : PassView) (acts : List Act) : Type 0 where
  pub of : IsPassOf m q
  pub steps : (lane : LaneView) → Steps m file may lane lane p q acts
  pub begun : q.begun ≡ p.begun
  pub loans : loans_in acts ≡ 0

-- acts of which neither the first nor the later ones lend, lend nothing
no-loans : (acts more : List Act) → loans_in acts ≡ 0 → loans_in more ≡ 0 → loans_in (acts ++ more) ≡ 0
no-loans acts more first later = loans-append acts more ∙ (let e : loans_in acts + loans_in more ≡ 0 = omega (arith, first, later) in e)

-- Turns that map a range and promise space to no block
pub record AreVain (m : MountView) (file : FileId) (may : Event → Bool) (p q : PassView) (acts : List Act) : Type 0 where
  pub turns : AreTurns m file may p q acts
  pub vain : All PromisedNone (own_entries acts)

-- a turn promised nothing whose event came to something else
vain-one : (m : MountView) (file : FileId) (t : MapTurn) (p q : PassView) (is : IsOneAct m file t p q) (o : Outcome) → is.own.outcome ≡ o → is_promise (event_of t) o ≡ false → All PromisedNone (is.own ∷ [])
vain-one m file t p q is o came none =
    All-cons PromisedNone is.own [] ((λ i. is_promise (is.event_is i) (came i)) ∙ none) (All-nil PromisedNone)

module _ (m : MountView) (file : FileId) (may : Event → Bool) where
  turns-none : (p q : PassView) → IsPassOf m p → q ≡ p → AreTurns m file may p q []
  turns-none p q of is = subst (λ v. AreTurns m file may p v []) (sym is) (record { of = of; steps = λ lane. steps-none m file may lane p of; begun = refl; loans = refl })

  turns-then : (p q r : PassView) (acts more : List Act) → AreTurns m file may p q acts → AreTurns m file may q r more → AreTurns m file may p r (acts ++ more)
  turns-then p q r acts more first later = record {
    of = later.of;
    steps = λ lane. steps-then m file may lane lane lane p q r acts more (first.steps lane) (later.steps lane);
    begun = later.begun ∙ first.begun;
    loans = no-loans acts more first.loans later.loans;
  }

  vain-none : (p q : PassView) → IsPassOf m p → q ≡ p → AreVain m file may p q []
  vain-none p q of is = record { turns = turns-none p q of is; vain = All-nil PromisedNone }

  vain-then : (p q r : PassView) (acts more : List Act) → AreVain m file may p q acts → AreVain m file may q r more → AreVain m file may p r (acts ++ more)
  vain-then p q r acts more first later = record {
    turns = turns-then p q r acts more first.turns later.turns;
    vain = subst (All PromisedNone) (sym (own_entries-append acts more)) (All-append PromisedNone (own_entries acts) (own_entries more) first.vain later.vain);
  }

  -- one turn
  pub act-step : (b : ℕ) (others : List Entry) (own : Entry) (p q : PassView) → IsPassOf m p → HasBlock m file b → HasTurned (stripe_at m file b) others own p q → IsTrue (may own.event) → own.caller ≡ p.caller
      → has_lent own.outcome ≡ false → done_of own.event own.outcome ≡ [] → IsPlaced m file (Turn (stripe_at m file b) others own) → (lane : LaneView) → Steps m file may lane lane p q (Turn (stripe_at m file b) others own ∷ [])
  act-step b others own p q of has did mine caller lent gave placed lane =
      let stripe = stripe_at m file b in
      let act = Turn stripe others own in
      let made : Entry → Type 0 = λ e. IsTrue (may e.event) in
      let ours : Entry → Type 0 = λ e. e.caller ≡ p.caller in
      record {
        of = subst (IsPassOf m) (sym did.pass_is) (of-with_seat p stripe did.before did.after did.here did.cell m of);
        did = record { acted = (q, did, refl); at_file = All-cons (IsActAt m file) act [] (b, has, refl) (All-nil (IsActAt m file)); made = All-cons made own [] mine (All-nil made); closed = λ k. refl };
        locks = refl;
        sizes = refl;
        last = ap (λ (v : PassView). v.last) did.pass_is;
        callers = All-cons ours own [] caller (All-nil ours);
        placed = All-cons (IsPlaced m file) act [] placed (All-nil (IsPlaced m file));
        run = sym (ap (λ l. one_where l + 0) lent);
        lane = subst (ServedBy lane lane) (sym (ap (λ l. l ++ []) gave)) (served-none lane);
        tickets = subst (KeepsTickets p) (sym did.pass_is) (tickets-with_seat p stripe did.before did.after did.here did.cell (others ++ own ∷ [], sym (append_assoc did.before.seen others (own ∷ [])) ∙ sym did.seen));
      }

  turn-one : (t : MapTurn) (p q : PassView) → IsPassOf m p → HasBlock m file (block_of t) → IsTrue (may (event_of t)) → (is : IsOneAct m file t p q) → AreTurns m file may p q (Turn (stripe_at m file (block_of t)) is.others is.own ∷ [])
  turn-one t p q of has mine is = record {
    of = subst (IsPassOf m) (sym is.did.pass_is) (of-with_seat p (stripe_at m file (block_of t)) is.did.before is.did.after is.did.here is.did.cell m of);
    steps = act-step (block_of t) is.others is.own p q of has is.did (subst (λ e. IsTrue (may e)) (sym is.event_is) mine) is.caller is.lent is.gave (quiet-act m file (stripe_at m file (block_of t)) is.others is.own (subst (λ e. IsTrue (is_quiet e)) (sym is.event_is) (turn-quiet t)));
    begun = ap (λ (v : PassView). v.begun) is.did.pass_is;
    loans = ap (λ l. one_where l + 0) is.lent;
  }

  -- the pass notes a mapping, or that it has none
  note-step : (begun : Option Begun) (p q : PassView) → IsPassOf m p → q ≡ with_begun p begun → (lane : LaneView) → Steps m file may lane lane p q (Note begun ∷ [])
  note-step begun p q of is lane = record {
    of = of-noted m p q begun of is;
    did = record { acted = (q, is, refl); at_file = All-cons (IsActAt m file) (Note begun) [] tt (All-nil (IsActAt m file)); made = All-nil (λ (e : Entry). IsTrue (may e.event)); closed = λ k. refl };
    locks = refl;
    sizes = refl;
    last = ap (λ (v : PassView). v.last) is;
    callers = All-nil (λ (e : Entry). e.caller ≡ p.caller);
    placed = All-cons (IsPlaced m file) (Note begun) [] tt (All-nil (IsPlaced m file));
    run = refl;
    lane = served-none lane;
    tickets = λ t ticket. subst (λ s. IsTicketOf s t) (sym is) (record { caller = ticket.caller; seat = ticket.seat; here = ticket.here; loan = ticket.loan });
  }

  -- turns, and then a note
  noted-step : (begun : Option Begun) (p r q : PassView) (acts : List Act) → AreTurns m file may p r acts → q ≡ with_begun r begun → (lane : LaneView) → Steps m file may lane lane p q (acts ++ Note begun ∷ [])
  noted-step begun p r q acts turns is lane = steps-then m file may lane lane lane p r q acts (Note begun ∷ []) (turns.steps lane) (note-step begun r q turns.of is lane)

-- turns that are made one part after another
parted : (m : MountView) (file : FileId) (ts us : List MapTurn) (p q : PassView) → MakesTurns m file (ts ++ us) p q → (r : PassView) × MakesTurns m file ts p r × MakesTurns m file us r q
parted m file [] us p q made = (p, refl, made)
parted m file (t ∷ ts) us p q (s, one, rest) = let more = parted m file ts us s q rest in (more.0, (s, one, more.1), more.2)

only-one : (m : MountView) (file : FileId) (t : MapTurn) (p q : PassView) → MakesTurns m file (t ∷ []) p q → MakesTurn m file t p q
only-one m file t p q made = subst (MakesTurn m file t p) (sym made.2) made.1

-- the fault of a begin whose promise was so refused rests on that entry
fault-refused : (m : MountView) (fault : EventFault) (hindered : BeginFault) (own : Entry) → begin_fault fault ≡ Some hindered → own.outcome ≡ Refused fault → ShortOf m fault → IsCaused m (own ∷ []) (mapping_fault hindered)
fault-refused m (refusal.Worn cookie) hindered own is e short = let same : begin.Worn cookie ≡ hindered = cc in subst (λ h. IsCaused m (own ∷ []) (mapping_fault h)) same (0, own, refl, e)
fault-refused m refusal.NoMemory hindered own is e short = let same : begin.NoMemory ≡ hindered = cc in subst (λ h. IsCaused m (own ∷ []) (mapping_fault h)) same tt
fault-refused m (refusal.NoSpace wanted found) hindered own is e short = let same : begin.NoSpace wanted found ≡ hindered = cc in subst (λ h. IsCaused m (own ∷ []) (mapping_fault h)) same ((0, own, refl, e), short)
fault-refused m (refusal.Stale x y) hindered own is e short = absurd (cc)
fault-refused m (refusal.Away x y) hindered own is e short = absurd (cc)
fault-refused m (refusal.Cold x) hindered own is e short = absurd (cc)
fault-refused m (refusal.Settled x) hindered own is e short = absurd (cc)
fault-refused m (refusal.Unattached x) hindered own is e short = absurd (cc)
fault-refused m (refusal.Dirty x) hindered own is e short = absurd (cc)
fault-refused m (refusal.Poison x) hindered own is e short = absurd (cc)

module _ (m : MountView) (file : FileId) (pos most : ℕ) (has : HasBlock m file (block_at m pos)) where
  -- a mapping that rests on the sample of the last turn is begun
  begun-maps : (writes new : Bool) (p r q : PassView) (acts : List Act) (sample : Sample) (iomap : Iomap) → AreTurns m file (maps writes) p r acts → NotesBegun (Ok (begun_of m file new sample)) r (Ok iomap) q → IsOpen m q iomap
      → sample.extent.block ≡ block_at m pos → IsGivenAt r (stripe_at m file (block_at m pos)) sample → (new ≡ true → writes ≡ true) → (writes ≡ true → is_hole sample.extent.kind ≡ false) → Promised new sample (own_entries acts)
      → Maps m file pos writes p q iomap
  begun-maps writes new p r q acts sample iomap turns noted unended starts given promised space kept =
      let begun = begun_of m file new sample in
      let is = noted.1 in
      let same : Ok iomap ≡ Ok (mapping_of m file new sample) = noted.0 in
      let iomap_is : iomap ≡ mapping_of m file new sample = cc in
      let here : q.begun ≡ Some begun = ap (λ (v : PassView). v.begun) is in
      let tells : Tells m begun = subst (λ o. IfSome o (Tells m)) here unended.tells in
      record {
        acts = acts ++ Note (Some begun) ∷ [];
        steps = noted-step m file (maps writes) (Some begun) p r q acts turns is;
        loans = no-loans acts (Note (Some begun) ∷ []) turns.loans refl;
        begun = begun;
        noted = here;
        iomap_is = sym iomap_is;
        unended = unended;
        tells = record { new = new; is = refl; starts = starts; lies = tells.lies };
        given = subst (λ v. IsGivenAt v (stripe_at m file (block_at m pos)) sample) (sym is) given;
        promised = λ e. promised (sym (ap (λ (i : Iomap). i.flags.new) iomap_is) ∙ e);
        space = space;
        promises = subst (λ t. Promised t sample (own_entries (acts ++ Note (Some begun) ∷ []))) (sym (ap (λ (i : Iomap). i.flags.new) iomap_is)) (subst (Promised new sample) (sym (own_entries-append acts (Note (Some begun) ∷ []) ∙ append-nil (own_entries acts))) kept);
      }

  look-turn : (writes : Bool) (p q : PassView) (sample : Sample) → IsPassOf m p → (is : IsOneAct m file (Look (block_at m pos) most sample) p q) → AreVain m file (maps writes) p q (Turn (stripe_at m file (block_at m pos)) is.others is.own ∷ [])
  look-turn writes p q sample of is = record { turns = turn-one m file (maps writes) (Look (block_at m pos) most sample) p q of has refl is; vain = vain-one m file (Look (block_at m pos) most sample) p q is (Sampled sample) is.came refl }

  promise-turn : (p q : PassView) (seen : Sample) (n : ℕ) (answer : Result Sample EventFault) → IsPassOf m p → seen.extent.block ≡ block_at m pos → (is : IsOneAct m file (Promise seen n answer) p q)
      → AreTurns m file (maps true) p q (Turn (stripe_at m file seen.extent.block) is.others is.own ∷ [])
  promise-turn p q seen n answer of starts is = turn-one m file (maps true) (Promise seen n answer) p q of (subst (HasBlock m file) (sym starts) has) refl is

  refused-turn : (p q : PassView) (seen : Sample) (n : ℕ) (fault : EventFault) → IsPassOf m p → seen.extent.block ≡ block_at m pos → (is : IsOneAct m file (Promise seen n (Err fault)) p q)
      → AreVain m file (maps true) p q (Turn (stripe_at m file seen.extent.block) is.others is.own ∷ [])
  refused-turn p q seen n fault of starts is = record { turns = promise-turn p q seen n (Err fault) of starts is; vain = vain-one m file (Promise seen n (Err fault)) p q is (Refused fault) is.came refl }

  -- the last turn was a look
  look-maps : (writes : Bool) (p r s q : PassView) (acts : List Act) (sample : Sample) (iomap : Iomap) → AreVain m file (maps writes) p r acts → MakesTurn m file (Look (block_at m pos) most sample) r s
      → NotesBegun (Ok (begun_of m file false sample)) s (Ok iomap) q → IsOpen m q iomap → (writes ≡ true → is_hole sample.extent.kind ≡ false) → Maps m file pos writes p q iomap
  look-maps writes p r s q acts sample iomap before look noted unended space =
      let is = one-act m file (Look (block_at m pos) most sample) r s look in
      let act = Turn (stripe_at m file (block_at m pos)) is.others is.own in
      let all = vain-then m file (maps writes) p r s acts (act ∷ []) before (look-turn writes r s sample before.turns.of is) in
      begun-maps writes false p s q (acts ++ act ∷ []) sample iomap all.turns noted unended
      (look-starts m file r s (block_at m pos) most sample look) (turned-given (stripe_at m file (block_at m pos)) is.others is.own r s sample is.did is.came) (λ e. absurd (cc)) space all.vain

  -- the last turn was a promise
  promise-maps : (p r s q : PassView) (acts : List Act) (seen promised : Sample) (n : ℕ) (iomap : Iomap) → AreVain m file (maps true) p r acts → seen.extent.block ≡ block_at m pos → MakesTurn m file (Promise seen n (Ok promised)) r s
      → NotesBegun (Ok (begun_of m file true promised)) s (Ok iomap) q → IsOpen m q iomap → Maps m file pos true p q iomap
  promise-maps p r s q acts seen promised n iomap before starts turn noted unended =
      let is = one-act m file (Promise seen n (Ok promised)) r s turn in
      let act = Turn (stripe_at m file seen.extent.block) is.others is.own in
      let sample_is = turn.turned.done.ok.sample_is in
      begun-maps true true p s q (acts ++ act ∷ []) promised iomap (turns-then m file (maps true) p r s acts (act ∷ []) before.turns (promise-turn r s seen n (Ok promised) before.turns.of starts is)) noted unended
      (ap (λ (x : Sample). x.extent.block) sample_is ∙ starts)
      (subst (λ b. IsGivenAt s (stripe_at m file b) promised) starts (turned-given (stripe_at m file seen.extent.block) is.others is.own r s promised is.did is.came))
      (λ _. refl) (λ _. ap (λ (x : Sample). is_hole x.extent.kind) sample_is)
      (record { before = own_entries acts; last = is.own; seen = seen; blocks = n; entries_are = own_entries-append acts (act ∷ []); none = before.vain; event_is = is.event_is; gave = is.came })

  -- a look and a promise that was refused
  refused-maps : (p r s q : PassView) (acts : List Act) (seen : Sample) (fault : EventFault) (hindered : BeginFault) → AreVain m file (maps true) p r acts → seen.extent.block ≡ block_at m pos → MakesTurn m file (Promise seen seen.extent.length (Err fault)) r s
      → begin_fault fault ≡ Some hindered → 0 < seen.extent.length → seen.extent.kind ≡ Hole → IsGivenAt r (stripe_at m file (block_at m pos)) seen → q ≡ s → MapsNone m file true p q (mapping_fault hindered)
  refused-maps p r s q acts seen fault hindered before starts turn hinders some hole given same =
      let is = one-act m file (Promise seen seen.extent.length (Err fault)) r s turn in
      let act = Turn (stripe_at m file seen.extent.block) is.others is.own in
      let all = vain-then m file (maps true) p r s acts (act ∷ []) before (refused-turn r s seen seen.extent.length fault before.turns.of starts is) in
      let turns = all.turns in
      subst (λ v. MapsNone m file true p v (mapping_fault hindered)) (sym same) (record {
        acts = acts ++ act ∷ [];
        steps = turns.steps;
        loans = turns.loans;
        asked = refl;
        same = turns.begun;
        cause = subst (λ l. IsCaused m l (mapping_fault hindered)) (sym (own_entries-append acts (act ∷ []))) (caused-right m (own_entries acts) (is.own ∷ []) (mapping_fault hindered) (fault-refused m fault hindered is.own hinders is.came (promise-short m file r s seen fault some hole (subst (λ b. IsGivenAt r (stripe_at m file b) seen) (sym starts) given) turn)));
        unpromised = all.vain;
      })

  -- tries that were stale
  stale-turns : (tries : List StaleTry) (p q : PassView) → IsPassOf m p → MakesTurns m file (turns_of (stale_turns (block_at m pos) most) tries) p q → (acts : List Act) × AreVain m file (maps true) p q acts
  stale-turns [] p q of made = ([], vain-none m file (maps true) p q of made)
  stale-turns (t ∷ tries) p q of (r, look, (s, promise, rest)) =
      let answer : Result Sample EventFault = Err (refusal.Stale t.seen.cookie t.now) in
      let first = one-act m file (Look (block_at m pos) most t.seen) p r look in
      let next = one-act m file (Promise t.seen t.seen.extent.length answer) r s promise in
      let looked = look-turn true p r t.seen of first in
      let promised = refused-turn r s t.seen t.seen.extent.length (refusal.Stale t.seen.cookie t.now) looked.turns.of (look-starts m file p r (block_at m pos) most t.seen look) next in
      let later = stale-turns tries s q promised.turns.of rest in
      let one = Turn (stripe_at m file (block_at m pos)) first.others first.own ∷ [] in
      let two = Turn (stripe_at m file t.seen.extent.block) next.others next.own ∷ [] in
      (one ++ (two ++ later.0), vain-then m file (maps true) p r q one (two ++ later.0) looked (vain-then m file (maps true) r s q two later.0 promised later.1))

  -- a begin that looks
  look-begun : (p r q : PassView) (turns : List MapTurn) (came : Result Begun BeginFault) (iomap : Iomap) → IsPassOf m p → MakesTurns m file turns p r → IsLook m file (block_at m pos) most turns came → NotesBegun came r (Ok iomap) q → IsOpen m q iomap → Maps m file pos false p q iomap
  look-begun p r q turns came iomap of made is noted unended =
      let look = only-one m file (Look (block_at m pos) most is.sample) p r (subst (λ ts. MakesTurns m file ts p r) is.turns_are made) in
      look-maps false p p r q [] is.sample iomap (vain-none m file (maps false) p p of refl) look (subst (λ c. NotesBegun c r (Ok iomap) q) is.answer_is noted) unended (λ e. absurd (cc))

  look-not_refused : (r q : PassView) (turns : List MapTurn) (came : Result Begun BeginFault) (hindered : BeginFault) → IsLook m file (block_at m pos) most turns came → NotesBegun came r (Err hindered) q → ⊥
  look-not_refused r q turns came hindered is noted = let no = (subst (λ c. NotesBegun c r (Err hindered) q) is.answer_is noted).0 in cc

  -- the last try of a begin that writes
  write-ends : (p r s q : PassView) (acts : List Act) (turns : List MapTurn) (came : Result Begun BeginFault) (iomap : Iomap) → AreVain m file (maps true) p r acts → MakesTurns m file turns r s → EndsWrite m file (block_at m pos) most turns came → NotesBegun came s (Ok iomap) q → IsOpen m q iomap
      → Maps m file pos true p q iomap
  write-ends p r s q acts turns came iomap before made (inl found) noted unended =
      let look = only-one m file (Look (block_at m pos) most found.sample) r s (subst (λ ts. MakesTurns m file ts r s) found.turns_are made) in
      look-maps true p r s q acts found.sample iomap before look (subst (λ c. NotesBegun c s (Ok iomap) q) found.answer_is noted) unended (λ _. found.used)
  write-ends p r s q acts turns came iomap before made (inr asked) noted unended =
      promised asked.promise asked.answer_is (subst (λ ts. MakesTurns m file ts r s) asked.turns_are made)
    where
      promised : (answer : Result Sample EventFault) → AnswersPromise m file (block_at m pos) most answer came → MakesTurns m file (Look (block_at m pos) most asked.sample ∷ Promise asked.sample asked.sample.extent.length answer ∷ []) r s → Maps m file pos true p q iomap
      promised (Ok sample) is (t, look, rest) =
          let first = one-act m file (Look (block_at m pos) most asked.sample) r t look in
          let act = Turn (stripe_at m file (block_at m pos)) first.others first.own in
          promise-maps p t s q (acts ++ act ∷ []) asked.sample sample asked.sample.extent.length iomap (vain-then m file (maps true) p r t acts (act ∷ []) before (look-turn true r t asked.sample before.turns.of first)) (look-starts m file r t (block_at m pos) most asked.sample look)
          (only-one m file (Promise asked.sample asked.sample.extent.length (Ok sample)) t s rest) (subst (λ c. NotesBegun c s (Ok iomap) q) is noted) unended
      promised (Err fault) is made = let no = (subst (λ c. NotesBegun c s (Ok iomap) q) is.2 noted).0 in absurd (cc)

  write-fails : (p r s q : PassView) (acts : List Act) (turns : List MapTurn) (came : Result Begun BeginFault) (hindered : BeginFault) → AreVain m file (maps true) p r acts → MakesTurns m file turns r s → EndsWrite m file (block_at m pos) most turns came
      → NotesBegun came s (Err hindered) q → MapsNone m file true p q (mapping_fault hindered)
  write-fails p r s q acts turns came hindered before made (inl found) noted = let no = (subst (λ c. NotesBegun c s (Err hindered) q) found.answer_is noted).0 in absurd (cc)
  write-fails p r s q acts turns came hindered before made (inr asked) noted =
      promised asked.promise asked.answer_is (subst (λ ts. MakesTurns m file ts r s) asked.turns_are made)
    where
      promised : (answer : Result Sample EventFault) → AnswersPromise m file (block_at m pos) most answer came → MakesTurns m file (Look (block_at m pos) most asked.sample ∷ Promise asked.sample asked.sample.extent.length answer ∷ []) r s
          → MapsNone m file true p q (mapping_fault hindered)
      promised (Ok sample) is made = let no = (subst (λ c. NotesBegun c s (Err hindered) q) is noted).0 in absurd (cc)
      promised (Err fault) is (t, look, rest) =
          let first = one-act m file (Look (block_at m pos) most asked.sample) r t look in
          let act = Turn (stripe_at m file (block_at m pos)) first.others first.own in
          let ends = subst (λ c. NotesBegun c s (Err hindered) q) is.2 noted in
          let told : Err hindered ≡ Err is.0 = ends.0 in
          let same : is.0 ≡ hindered = cc in
          refused-maps p t s q (acts ++ act ∷ []) asked.sample fault hindered (vain-then m file (maps true) p r t acts (act ∷ []) before (look-turn true r t asked.sample before.turns.of first)) (look-starts m file r t (block_at m pos) most asked.sample look)
          (only-one m file (Promise asked.sample asked.sample.extent.length (Err fault)) t s rest) (is.1 ∙ ap Some same) look.turned.done.lies.some asked.hole (look-given m file r t (block_at m pos) most asked.sample look) ends.1

  write-begun : (p s q : PassView) (turns : List MapTurn) (came : Result Begun BeginFault) (iomap : Iomap) → IsPassOf m p → MakesTurns m file turns p s → IsWrite m file (block_at m pos) most turns came → NotesBegun came s (Ok iomap) q → IsOpen m q iomap → Maps m file pos true p q iomap
  write-begun p s q turns came iomap of made is noted unended =
      let parts = parted m file is.before is.last p s (subst (λ ts. MakesTurns m file ts p s) is.turns_are made) in
      let stale = stale-turns is.stale.tries p parts.0 of (subst (λ ts. MakesTurns m file ts p parts.0) is.stale.turns_are parts.1) in
      write-ends p parts.0 s q stale.0 is.last came iomap stale.1 parts.2 is.ends noted unended

  write-none : (p s q : PassView) (turns : List MapTurn) (came : Result Begun BeginFault) (hindered : BeginFault) → IsPassOf m p → MakesTurns m file turns p s → IsWrite m file (block_at m pos) most turns came → NotesBegun came s (Err hindered) q
      → MapsNone m file true p q (mapping_fault hindered)
  write-none p s q turns came hindered of made is noted =
      let parts = parted m file is.before is.last p s (subst (λ ts. MakesTurns m file ts p s) is.turns_are made) in
      let stale = stale-turns is.stale.tries p parts.0 of (subst (λ ts. MakesTurns m file ts p parts.0) is.stale.turns_are parts.1) in
      write-fails p parts.0 s q stale.0 is.last came hindered stale.1 parts.2 is.ends noted

-- a byte before the end of a file lies in one of its blocks
some-size : (blocks size pos : ℕ) → pos < blocks * size → 0 < size
some-size blocks zero pos below = absurd (omega arith)
some-size blocks (suc size) pos below = omega arith

pub has-block : (m : MountView) (file : FileId) (pos : ℕ) → pos < file_end m file → HasBlock m file (block_at m pos)
has-block m file pos below = block-within pos (file_at m file).blocks m.geometry.block_size (some-size (file_at m file).blocks m.geometry.block_size pos below) below

-- the flags of the calls through the cache
abbrev pub AsksCache : Flags → Type 0
AsksCache flags = (flags ≡ no_flags) ⊎ (flags ≡ zero_flags) ⊎ (flags ≡ write_flags)

module _ (m : MountView) (file : FileId) (pos left : ℕ) (flags : Flags) (p q : PassView) (of : IsPassOf m p) (below : pos < file_end m file) where
  -- a begin that gave a mapping
  pub begins-maps : (iomap : Iomap) → AsksCache flags → Begins m p file pos left flags (Ok iomap) q → IsOpen m q iomap → Maps m file pos flags.write p q iomap
  begins-maps iomap (inl is) b unended =
      let begins = subst (λ f. Begins m p file pos left f (Ok iomap) q) is b in
      subst (λ (f : Flags). Maps m file pos f.write p q iomap) (sym is) (look-begun m file pos (blocks_asked m file pos left) (has-block m file pos below) p begins.reached q begins.made.turns begins.came iomap of begins.made.make begins.made.are begins.noted unended)
  begins-maps iomap (inr (inl is)) b unended =
      let begins = subst (λ f. Begins m p file pos left f (Ok iomap) q) is b in
      subst (λ (f : Flags). Maps m file pos f.write p q iomap) (sym is) (look-begun m file pos (blocks_asked m file pos left) (has-block m file pos below) p begins.reached q begins.made.turns begins.came iomap of begins.made.make begins.made.are begins.noted unended)
  begins-maps iomap (inr (inr is)) b unended =
      let begins = subst (λ f. Begins m p file pos left f (Ok iomap) q) is b in
      subst (λ (f : Flags). Maps m file pos f.write p q iomap) (sym is) (write-begun m file pos (blocks_asked m file pos left) (has-block m file pos below) p begins.reached q begins.made.turns begins.came iomap of begins.made.make begins.made.are begins.noted unended)

  -- a begin that was refused
  pub begins-none : (hindered : BeginFault) → AsksCache flags → Begins m p file pos left flags (Err hindered) q → MapsNone m file flags.write p q (mapping_fault hindered)
  begins-none hindered (inl is) b =
      let begins = subst (λ f. Begins m p file pos left f (Err hindered) q) is b in
      absurd (look-not_refused m file pos (blocks_asked m file pos left) (has-block m file pos below) begins.reached q begins.made.turns begins.came hindered begins.made.are begins.noted)
  begins-none hindered (inr (inl is)) b =
      let begins = subst (λ f. Begins m p file pos left f (Err hindered) q) is b in
      absurd (look-not_refused m file pos (blocks_asked m file pos left) (has-block m file pos below) begins.reached q begins.made.turns begins.came hindered begins.made.are begins.noted)
  begins-none hindered (inr (inr is)) b =
      let begins = subst (λ f. Begins m p file pos left f (Err hindered) q) is b in
      subst (λ (f : Flags). MapsNone m file f.write p q (mapping_fault hindered)) (sym is) (write-none m file pos (blocks_asked m file pos left) (has-block m file pos below) p begins.reached q begins.made.turns begins.came hindered of begins.made.make begins.made.are begins.noted)

-- What a call is told that maps the next part of its range
module _ (m : MountView) (flags : Flags) (it later : IterView) (p q : PassView) (of : IsPassOf m p) (below : 0 < it.left → it.pos < file_end m it.file) (asks : AsksCache flags) where
  pub next-found : (found : Option Iomap) → MatchOption found ((it.left ≡ 0) × (later ≡ it) × (q ≡ p)) (λ _. 0 < it.left) → IfSome found (λ i. IsBegun it.file it.pos i × (later ≡ began it i)) → IfSome found (λ i. Begins m p it.file it.pos it.left flags (Ok i) q × IsOpen m q i)
      → MatchOption found ((it.left ≡ 0) × (later ≡ it) × (q ≡ p)) (λ i. (0 < it.left) × IsBegun it.file it.pos i × (later ≡ began it i) × Maps m it.file it.pos flags.write p q i)
  next-found None none covers begun = none
  next-found (Some iomap) some covers begun = (some, covers.0, covers.1, begins-maps m it.file it.pos it.left flags p q of (below some) iomap asks begun.0 begun.1)

  pub next-refused : (hindered : BeginFault) (fault : Fault) → fault ≡ mapping_fault hindered → (0 < it.left) × (later ≡ it) × Begins m p it.file it.pos it.left flags (Err hindered) q → (0 < it.left) × (later ≡ it) × MapsNone m it.file flags.write p q fault
  next-refused hindered fault is (some, same, begun) = (some, same, subst (MapsNone m it.file flags.write p q) (sym is) (begins-none m it.file it.pos it.left flags p q of (below some) hindered asks begun))

-- where both tests hold, the first does
first-holds : (a b : Bool) → (a && b) ≡ true → a ≡ true
first-holds true b both = refl
first-holds false b both = both

-- an end takes back promises only where its begin made some
back-turns : (m : MountView) (file : FileId) (new leaves : Bool) (extent : Extent) (p q : PassView) (turns : List MapTurn) → IsPassOf m p → LiesInStripe m file extent → (leaves ≡ true → new ≡ true) → MakesTurns m file turns p q → TakesBack leaves extent turns
    → (acts : List Act) × AreTurns m file (maps new) p q acts × TookBack leaves extent (own_entries acts)
back-turns m file new false extent p q turns of lies may made is = ([], turns-none m file (maps new) p q of (subst (λ ts. MakesTurns m file ts p q) is made), refl)
back-turns m file new true extent p q turns of lies may made is =
    let t = TakeBack extent.block extent.length is.0 in
    let act = one-act m file t p q (only-one m file t p q (subst (λ ts. MakesTurns m file ts p q) is.1 made)) in
    let some = lies.some in
    let within = lies.within in (
      Turn (stripe_at m file extent.block) act.others act.own ∷ [],
      turn-one m file (maps new) t p q of (omega arith) (may refl) act,
      record { own = act.own; count = is.0; entries_are = refl; event_is = act.event_is; outcome_is = act.came },
    )

-- an end of a mapping
pub ends-mapping : (m : MountView) (file : FileId) (iomap : Iomap) (written : ℕ) (p q : PassView) → iomap.file ≡ file → IsOpen m p iomap → Ends m p iomap written q → GivesBack m file iomap written p q
ends-mapping m file iomap written p q at unended ends =
    let new = iomap.flags.new in
    let leaves = leaves_promises iomap written in
    let extent = ends.begun.sample.extent in
    let back = back-turns m iomap.file new leaves extent p ends.reached ends.made.turns unended.of (open-lies m p iomap ends.begun unended ends.was) (first-holds new _) ends.made.make ends.made.are in
    subst (λ f. GivesBack m f iomap written p q) at (record {
      ends = record {
        acts = back.0 ++ Note None ∷ [];
        steps = noted-step m iomap.file (maps new) None p ends.reached q back.0 back.1 ends.pass_is;
        loans = no-loans back.0 (Note None ∷ []) back.1.loans refl;
        none = ap (λ (v : PassView). v.begun) ends.pass_is;
      };
      begun = ends.begun;
      was = ends.was;
      back = subst (TookBack leaves extent) (sym (own_entries-append back.0 (Note None ∷ []) ∙ append-nil (own_entries back.0))) back.2;
    })

-- what may make the events that map a range: looks, and where it is to be written promises of space and their return
pub maps-only : (writes : Bool) (might : Event → Bool) → ((b most : ℕ) → IsTrue (might (event.Sample b most))) → (writes ≡ true → (seen : Sample) (n : ℕ) → IsTrue (might (event.Reserve seen n))) → (writes ≡ true → (b n : ℕ) → IsTrue (might (event.Unreserve b n)))
    → (e : Event) → IsTrue (maps writes e) → IsTrue (might e)
maps-only writes might look promise back (event.Sample b most) is = look b most
maps-only writes might look promise back (event.Reserve seen n) is = promise is seen n
maps-only writes might look promise back (event.Unreserve b n) is = back is b n
maps-only writes might look promise back e is = absurd (false≢true is)

-- they give no bytes and leave no stamps
pub maps-quiet : (writes : Bool) (e : Event) → IsTrue (maps writes e) → IsTrue (is_quiet e)
maps-quiet writes e is = maps-only writes is_quiet (λ b most. refl) (λ w seen n. refl) (λ w b n. refl) e is
