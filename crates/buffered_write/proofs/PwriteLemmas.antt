-- What a whole write tells, from what it did under the exclusive class.
use Rattle.std.proofs.Common.{◌≡◌, ℕ, ◌+◌, ◌-◌, ◌<◌, ◌≤◌, ◌++◌, ◌∷◌, [], List, min, true, false, Some, None, Ok, Err, length, drop, take, refl, sym, ap, ◌∙◌, subst, arith, append-nil}
use Rattle.std.specs.Prelude.{◌^◌, All, IfSome, IsTrue, Option}
use Rattle.std.specs.List.{concat}
use Rattle.std.proofs.lemmas.Bool.{false≢true}
use Rattle.std.proofs.lemmas.List.Elements.{All-cons, All-nil, All-weaker}
use Rattle.iob_base.specs.Geometry.{is_block_size}
use Rattle.iob_base.specs.declared.answer.Answer.{Answer}
use Rattle.iob_base.specs.declared.answer.Fault.{Fault}
use Rattle.iob_base.specs.declared.answer.Fault.TheVariants as fault
use Rattle.iob_base.specs.declared.answer.Reply.TheVariants as reply
use Rattle.iob_base.specs.declared.answer.Stop.TheVariants.{Whole}
use Rattle.iob_base.specs.declared.stamp.FileId.{FileId}
use Rattle.iob_base.specs.declared.stamp.Mode.TheVariants.{Cached}
use Rattle.iob_base.specs.declared.stamp.Tag.{Tag}
use Rattle.inode_lock.specs.Calls.{IsLeft, IsWon}
use Rattle.size_core.specs.declared.entry.SizeEntry.{SizeEntry}
use Rattle.size_core.specs.declared.entry.SizeEvent.{SizeEvent}
use Rattle.size_core.specs.declared.entry.SizeEvent.TheVariants.{Ready}
use Rattle.std.specs.declared.alloc.AllocError.{AllocError}
use Rattle.inode_lock.specs.declared.word.Class.TheVariants.{Exclusive}
use Rattle.io_model.specs.Answered.{answered_in}
use Rattle.io_model.specs.Lawful.{is_lawful_reply}
use Rattle.io_model.specs.Parts.{range_in, span, span_length}
use Rattle.io_model.specs.declared.script.Verb.TheVariants.{Pwrite}
use Rattle.iov_iter.specs.Home.{AllHome}
use Rattle.iov_iter.specs.IovView.{IovView, moved_to}
use Rattle.fault_device.specs.LaneView.{LaneView}
use Rattle.range_core.specs.ByteRuns.{HasNext}
use Rattle.range_core.specs.EntryStamps.{stamps_in}
use Rattle.range_core.specs.Stamps.{done_by}
use Rattle.range_core.specs.declared.entry.Entry.{Entry}
use Rattle.range_core.specs.declared.entry.Event.{Event}
use Rattle.range_core.specs.declared.entry.Event.TheVariants as event
use Rattle.mount_parts.specs.MountView.{MountView, file_at}
use Rattle.turn_cell.specs.Stakes.{total}
use Rattle.range_core.specs.EntryCounts.{lendings}
use Rattle.mini_fs.specs.Acts.{Act, Acts, bios_in, own_entries}
use Rattle.mini_fs.specs.Acts.Act.{Leave, Number, SizeTurn, Take}
use Rattle.mini_fs.specs.CallActs.{CallActs, lock_acts, size_acts, tag_of, with_call}
use Rattle.mini_fs.specs.Calls.{HasShares, LeavesPass, MayCall}
use Rattle.mini_fs.specs.Holds.{BringsBack, HoldView, HoldsNone, IsHoldOf, TakesOut}
use Rattle.mini_fs.specs.Mappings.{file_end}
use Rattle.mini_fs.specs.PassView.{IsPassOf, PassView}
use Rattle.mini_fs.specs.SizeTurns.{HasSize, size_at}
use Rattle.mini_fs.specs.Tickets.{IsTicketOf, KeepsTickets}
use Rattle.mini_fs.proofs.ActLemmas.{left-act, taken-act}
use Rattle.mini_fs.proofs.CallEnds.{acted-caller, acted-shares, acted-spare}
use Rattle.mini_fs.proofs.CallLemmas.{call-then, lock_acts-append, own_entries-append, size_acts-append}
use Rattle.call_parts.specs.Budgets.{IsSound, keeps_read}
use Rattle.call_parts.specs.Causes.{IsCaused}
use Rattle.buffered_write.specs.PartReads.{KeepsBudget, ReadsInPart}
use Rattle.buffered_write.specs.Grows.{AreSizeTurns, GrowsSize, MadeRoom, MeetsSize, TurnedAtSize, grown, size_entry}
use Rattle.buffered_write.specs.Lays.{EndsAt, GoesOn, LieOn, laid_in}
use Rattle.buffered_write.specs.LaysLocked.{HoldsClass}
use Rattle.call_parts.specs.Parts.{read_to, stamps_over}
use Rattle.buffered_write.specs.Pwrites.{IsLocked, IsPlain, IsUnlocked, Pwrites, UsesRoom, Writes, WroteWith, has_room, may_write, progress, write_reply}
use Rattle.call_parts.specs.Replies.{read_reply}
use Rattle.call_parts.specs.Steps.{IsPlaced, ServedBy, dones_in}
use Rattle.call_parts.specs.declared.progress.Progress.{Progress}
use Rattle.buffered_write.proofs.LaidLemmas.{IsBare, bare-call, held-after, placed-then}
use Rattle.buffered_write.proofs.DataReplyLemmas.{left-after}
use Rattle.buffered_write.proofs.LayLemmas.{lie-none}
use Rattle.call_parts.proofs.NumberLemmas.{answered-so, call-numbered, tickets-numbered}
use Rattle.call_parts.proofs.ReadyLemmas.{some-bytes}
use Rattle.buffered_write.proofs.RoomLemmas.{size-is}
use Rattle.call_parts.proofs.StepLemmas.{bios-append, served-none, steps-none}
use Rattle.buffered_write.proofs.StoredLemmas.{quiet-writes}
use Rattle.buffered_write.proofs.PartReadLemmas.{budget-none, budget-of, reads-before, reads-behind}
use Rattle.buffered_write.proofs.WriteReplyLemmas.{ends-short, lawful-write, reply-empty, reply-far, reply-room, room-empty, room-far, room-some, stamps-none}

module _ (m : MountView) (file : FileId) (by : Tag) where
  -- a pass that took the class goes on
  pub goes-taken : (p q : PassView) (h : HoldView) → TakesOut (IsWon Exclusive) p file q h → IsPassOf m q → GoesOn m file by p → GoesOn m file by q
  goes-taken p q h t of goes = record {
    of = of;
    caller = goes.caller ∙ sym (ap (λ (v : PassView). v.caller) t.pass_is);
    exists = goes.exists;
    cached = goes.cached;
    shares = subst (λ (v : PassView). HasShares m file 2 v) (sym t.pass_is) goes.shares;
  }

module _ (m : MountView) (file : FileId) (by : Tag) where
  module _ (from to : ℕ) (a b : LaneView) (iov later : IovView) (came : Progress) where
    -- the same entries, told of other acts of the same pass
    told-so : (Also Other : List Act → Type 0) (p q r s : PassView) (w : WroteWith Also m file by from to a b p q iov later came) (acts : List Act) → own_entries acts ≡ own_entries w.acts → bios_in acts ≡ bios_in w.acts → p.caller ≡ r.caller → q.last ≡ p.last → Other acts → IsPassOf m s
        → CallActs m file (may_write by) r s acts → All (IsPlaced m file) acts → s.last ≡ r.last → KeepsTickets r s → ReadsInPart m file from to came.fault acts → WroteWith Other m file by from to a b r s iov later came
    told-so Also Other p q r s w acts own bios caller same also of did placed last tickets few = record {
      acts = acts;
      also = also;
      of = of;
      did = did;
      last = last;
      callers = subst (All (λ (e : Entry). e.caller ≡ r.caller)) (sym own) (subst (λ n. All (λ (e : Entry). e.caller ≡ n) (own_entries w.acts)) caller w.callers);
      placed = placed;
      run = bios ∙ w.run ∙ ap (λ es. total lendings es) (sym own);
      lane = subst (λ es. ServedBy a b (dones_in es)) (sym own) w.lane;
      tickets = tickets;
      begins = w.begins;
      laid = subst (λ es. LieOn from came.at (take (came.at - from) (drop iov.place iov.bytes)) (laid_in m.geometry.block_size es)) (sym own) w.laid;
      stamps = ap (stamps_in m.geometry.block_size) own ∙ w.stamps;
      cause = subst (λ es. IfSome came.fault (IsCaused m es)) (sym own) w.cause;
      bios = w.bios ∙ ap (λ es. min (total lendings es) (2 ^ 64 - 1)) (sym own);
      few = few;
      moved = w.moved;
    }

    -- a write with a bare act before it, and with one behind it
    pub wrote-behind : (Also Other : List Act → Type 0) (p q r : PassView) (act : Act) → IsBare m file act p q → (w : WroteWith Also m file by from to a b q r iov later came) → Other (act ∷ w.acts) → WroteWith Other m file by from to a b p r iov later came
    wrote-behind Also Other p q r act bare w also =
        let bios = bios-append (act ∷ []) w.acts in
        let none = bare.bios in
        told-so Also Other q r p r w (act ∷ w.acts) (own_entries-append (act ∷ []) w.acts ∙ ap (λ l. l ++ own_entries w.acts) bare.own) (omega (arith, bios, none)) bare.caller w.last also w.of
        (call-then m file (may_write by) p q r (act ∷ []) w.acts (bare-call m file (may_write by) act p q bare) w.did) (All-cons (IsPlaced m file) act w.acts bare.placed w.placed) (w.last ∙ bare.last) (λ t is. w.tickets t (bare.tickets t is)) (reads-behind m file from to came.fault (act ∷ []) w.acts bare.own w.few)

    pub wrote-before : (Also Other : List Act → Type 0) (p q r : PassView) (act : Act) → IsBare m file act q r → IsPassOf m r → (w : WroteWith Also m file by from to a b p q iov later came) → Other (w.acts ++ act ∷ []) → WroteWith Other m file by from to a b p r iov later came
    wrote-before Also Other p q r act bare of w also =
        let bios = bios-append w.acts (act ∷ []) in
        let none = bare.bios in
        told-so Also Other p q p r w (w.acts ++ act ∷ []) (own_entries-append w.acts (act ∷ []) ∙ ap (λ l. own_entries w.acts ++ l) bare.own ∙ append-nil (own_entries w.acts)) (omega (arith, bios, none)) refl w.last also of
        (call-then m file (may_write by) p q r w.acts (act ∷ []) w.did (bare-call m file (may_write by) act q r bare)) (placed-then m file w.acts act w.placed bare.placed) (bare.last ∙ w.last) (λ t is. bare.tickets t (w.tickets t is)) (reads-before m file from to came.fault w.acts (act ∷ []) bare.own w.few)

    -- what was written under mappings met no lock and no size
    pub wrote-plain : (p q : PassView) → Writes m file by from to a b p q iov later came → WroteWith IsPlain m file by from to a b p q iov later came
    wrote-plain p q w = (let s = w.laid.steps in record {
      acts = w.laid.acts;
      also = (s.locks, s.sizes);
      of = s.of;
      did = s.did;
      last = s.last;
      callers = s.callers;
      placed = s.placed;
      run = s.run;
      lane = s.lane;
      tickets = s.tickets;
      begins = w.laid.begins;
      laid = w.laid.laid;
      stamps = w.laid.stamps;
      cause = w.laid.cause;
      bios = w.laid.bios;
      few = w.few;
      moved = w.moved;
    })

  -- a turn at the size of the file is bare
  pub bare-size : (e : SizeEvent) (p q : PassView) (others : List SizeEntry) → HasSize m file → Acts (SizeTurn (size_at m file) others (size_entry p.caller e)) p q → KeepsTickets p q → IsBare m file (SizeTurn (size_at m file) others (size_entry p.caller e)) p q
  bare-size e p q others sized did tickets = record {
    did = did;
    here = size-is m file sized;
    own = refl;
    bios = refl;
    closed = λ k. refl;
    placed = tt;
    caller = ap (λ (v : PassView). v.caller) did.pass_is;
    last = ap (λ (v : PassView). v.last) did.pass_is;
    tickets = tickets;
  }

  module _ (from to : ℕ) (a b : LaneView) (iov later : IovView) (came : Progress) where
    -- a write that used a room at the size behind its bytes
    pub in-room : (p q r : PassView) → HasSize m file → Writes m file by from to a b p q iov later came → TurnedAtSize m file (grown by from (came.at - from)) q r → IsPassOf m r → KeepsTickets q r → WroteWith (UsesRoom m file p.caller by from (came.at - from)) m file by from to a b p r iov later came
    in-room p q r sized w t of tickets =
        let plain = wrote-plain from to a b iov later came p q w in
        let turn : Act = SizeTurn (size_at m file) t.others (size_entry q.caller (grown by from (came.at - from))) in
        let caller : q.caller ≡ p.caller = acted-caller w.laid.acts p q w.laid.steps.did.acted in
        wrote-before from to a b iov later came IsPlain (UsesRoom m file p.caller by from (came.at - from)) p q r turn (bare-size (grown by from (came.at - from)) q r t.others sized t.did tickets) of plain (
          lock_acts-append plain.acts (turn ∷ []) ∙ append-nil (lock_acts plain.acts) ∙ plain.also.0,
          subst (AreSizeTurns p.caller (size_at m file) (grown by from (came.at - from) ∷ [])) (sym (size_acts-append plain.acts (turn ∷ []) ∙ ap (λ l. l ++ turn ∷ []) plain.also.1))
              (refl, ap (λ n. size_entry n (grown by from (came.at - from))) caller, tt),
        )

    -- a write at the size of a file that has one, which made room first
    pub made-so : (p q r : PassView) (done : Unit {0}) → HasSize m file → MadeRoom m file p q (Ok done) → KeepsTickets p q → WroteWith (UsesRoom m file q.caller by from (came.at - from)) m file by from to a b q r iov later came → WroteWith (IsUnlocked m file p.caller by from came) m file by from to a b p r iov later came
    made-so p q r done sized made tickets w =
        let turn : Act = SizeTurn (size_at m file) made.turned.others (size_entry p.caller (Ready (Ok done))) in
        let bare = bare-size (Ready (Ok done)) p q made.turned.others sized made.turned.did tickets in
        wrote-behind from to a b iov later came (UsesRoom m file q.caller by from (came.at - from)) (IsUnlocked m file p.caller by from came) p q r turn bare w (
          w.also.0,
          subst (λ o. GrowsSize o p.caller by from (came.at - from) came.fault (turn ∷ size_acts w.acts)) (sym (size-is m file sized)) (record {
            room = Ok done;
            turns = (refl, refl, subst (λ n. AreSizeTurns n (size_at m file) (grown by from (came.at - from) ∷ []) (size_acts w.acts)) bare.caller w.also.1);
            refused = tt;
          }),
        )

    -- a write at a file without a size
    pub sizeless-so : (p q : PassView) → (file_at m file).size ≡ None → Writes m file by from to a b p q iov later came → WroteWith (IsUnlocked m file p.caller by from came) m file by from to a b p q iov later came
    sizeless-so p q none w =
        let plain = wrote-plain from to a b iov later came p q w in
        told-so from to a b iov later came IsPlain (IsUnlocked m file p.caller by from came) p q p q plain plain.acts refl refl refl plain.last
        (plain.also.0, subst (λ o. GrowsSize o p.caller by from (came.at - from) came.fault (size_acts plain.acts)) (sym none) plain.also.1) plain.of plain.did plain.placed plain.last plain.tickets plain.few

    -- and one under the exclusive class
    pub locked-so : (p p1 p2 q : PassView) (h : HoldView) → TakesOut (IsWon Exclusive) p file p1 h → KeepsTickets p p1 → IsHoldOf m p1 h → WroteWith (IsUnlocked m file p1.caller by from came) m file by from to a b p1 p2 iov later came
        → BringsBack (IsLeft Exclusive) p2 h q → IsPassOf m q → KeepsTickets p2 q → WroteWith (IsLocked m file p.caller by from came) m file by from to a b p q iov later came
    locked-so p p1 p2 q h t first is w l of last =
        let took : Act = Take file Exclusive t.seat h.seat in
        let leave : Act = Leave h.file Exclusive h.seat l.next in
        let caller : p1.caller ≡ p.caller = ap (λ (v : PassView). v.caller) t.pass_is in
        let size = (file_at m file).size in
        let out = held-after p1 p2 w.acts h w.did.acted w.also.0 is in
        let left = wrote-before from to a b iov later came (IsUnlocked m file p1.caller by from came) Leaves p1 p2 q leave (record {
          did = left-act out l;
          here = t.file_is;
          own = refl;
          bios = refl;
          closed = λ k. refl;
          placed = tt;
          caller = ap (λ (v : PassView). v.caller) l.pass_is;
          last = ap (λ (v : PassView). v.last) l.pass_is;
          tickets = last;
        }) of w (
          ap (λ f. w.acts ++ Leave f Exclusive h.seat l.next ∷ []) t.file_is,
          lock_acts-append w.acts (leave ∷ []) ∙ ap (λ x. x ++ leave ∷ []) w.also.0 ∙ ap (λ f. Leave f Exclusive h.seat l.next ∷ []) t.file_is,
          subst (GrowsSize size p1.caller by from (came.at - from) came.fault) (sym (size_acts-append w.acts (leave ∷ []) ∙ append-nil (size_acts w.acts))) w.also.1,
        ) in
        wrote-behind from to a b iov later came Leaves (IsLocked m file p.caller by from came) p p1 q took (record {
          did = taken-act t;
          here = refl;
          own = refl;
          bios = refl;
          closed = λ k. refl;
          placed = tt;
          caller = caller;
          last = ap (λ (v : PassView). v.last) t.pass_is;
          tickets = first;
        }) left (
          record { home = t.seat; held = h.seat; next = l.next; work = w.acts; acts_are = ap (λ x. took ∷ x) left.also.0; locks = ap (λ x. took ∷ x) left.also.1 },
          subst (λ n. GrowsSize size n by from (came.at - from) came.fault (size_acts left.acts)) caller left.also.2,
        )
      where
        Leaves : List Act → Type 0
        Leaves acts = (acts ≡ w.acts ++ Leave file Exclusive h.seat l.next ∷ []) × (lock_acts acts ≡ Leave file Exclusive h.seat l.next ∷ []) × GrowsSize (file_at m file).size p1.caller by from (came.at - from) came.fault (size_acts acts)

  -- without memory for room nothing is written
  pub refused-so : (from to : ℕ) (lane : LaneView) (iov : IovView) (p q : PassView) (e : AllocError) → 0 < m.geometry.block_size → HasSize m file → MadeRoom m file p q (Err e) → IsPassOf m q → KeepsTickets p q
      → WroteWith (IsUnlocked m file p.caller by from (progress from 0 (Some fault.NoMemory))) m file by from to lane lane p q iov iov (progress from 0 (Some fault.NoMemory))
  refused-so from to lane iov p q e some sized made of tickets =
      let came = progress from 0 (Some fault.NoMemory) in
      let turn : Act = SizeTurn (size_at m file) made.turned.others (size_entry p.caller (Ready (Err e))) in
      let nothing = wrote-plain from to lane lane iov iov came q q
      (quiet-writes m file by from to lane lane q q iov iov (Some fault.NoMemory) some refl
      (record { acts = []; steps = steps-none m file (may_write by) lane q of; laid = refl; stamps = refl; cause = tt; sent = omega arith; sound = λ none. All-nil (λ (e : Entry). IsSound e.event); dry = λ dax. refl })) in
      wrote-behind from to lane lane iov iov came IsPlain (IsUnlocked m file p.caller by from came) p q q turn (bare-size (Ready (Err e)) p q made.turned.others sized made.turned.did tickets) nothing (
        nothing.also.0,
        subst (λ o. GrowsSize o p.caller by from (from - from) (Some fault.NoMemory) (turn ∷ size_acts nothing.acts)) (sym (size-is m file sized)) (record {
          room = Err e;
          turns = (refl, refl, subst (AreSizeTurns p.caller (size_at m file) []) (sym nothing.also.1) tt);
          refused = ((let z : from - from ≡ 0 = omega arith in z), refl);
        }),
      )

  -- a pass goes on after a turn at a size
  pub size-goes : (p q : PassView) (e : SizeEvent) → TurnedAtSize m file e p q → IsPassOf m q → GoesOn m file by p → GoesOn m file by q
  size-goes p q e t of goes = record {
    of = of;
    caller = goes.caller ∙ sym (ap (λ (v : PassView). v.caller) t.did.pass_is);
    exists = goes.exists;
    cached = goes.cached;
    shares = subst (λ (v : PassView). HasShares m file 2 v) (sym t.did.pass_is) goes.shares;
  }

-- after the events of a write a block that was read needs no read again
write-keeps : (by : Tag) (e : Event) → IsTrue (may_write by e) → IsTrue (keeps_read e)
write-keeps by (event.Sample block most) is = refl
write-keeps by (event.Reserve seen blocks) is = refl
write-keeps by (event.Unreserve block blocks) is = refl
write-keeps by (event.Store tag seen from to bytes) is = refl
write-keeps by (event.LendRead block most) is = refl
write-keeps by (event.FillBack ticket block blocks done) is = refl
write-keeps by e is = absurd (false≢true is)

module _ (m : MountView) (file : FileId) (call off : ℕ) (a b : LaneView) (p q : PassView) (iov later : IovView) (answer : Answer) where
  -- a write that had room
  pub pwrites-so : (to : ℕ) (came : Progress) → 0 < m.geometry.block_size → iov.place ≡ 0 → to ≡ read_to (file_end m file) off (length iov.bytes) → to ≡ off + span_length (range_in (file_end m file) off (length iov.bytes)) → has_room (file_end m file) off (length iov.bytes) ≡ true
      → WroteWith (IsLocked m file p.caller (tag_of p call) off came) m file (tag_of p call) off to a b (with_call p call) q iov later came → EndsAt m.geometry.block_size off to came.at came.fault false
      → answer.reply ≡ read_reply (length iov.bytes) (span_length (range_in (file_end m file) off (length iov.bytes))) (came.at - off) came.fault → answer.bios ≡ came.bios → Pwrites m file call off a b p q iov later answer
  pwrites-so to came some start read_is to_is room w ends reply bios =
      let size = m.geometry.block_size in
      let range = range_in (file_end m file) off (length iov.bytes) in
      let low = w.begins in
      let place : off + (came.at - off) ≡ came.at = omega (arith, low) in
      let met : came.at - off ≤ span_length range = far size off to came.at came.fault low to_is ends in
      record {
        count = came.at - off;
        fault = came.fault;
        acts = Number call ∷ w.acts;
        did = call-then m file (may_write (tag_of p call)) p (with_call p call) q (Number call ∷ []) w.acts (call-numbered m file (may_write (tag_of p call)) p call) w.did;
        callers = w.callers;
        placed = All-cons (IsPlaced m file) (Number call) w.acts tt w.placed;
        run = w.run;
        lane = w.lane;
        class = subst (λ t. HoldsClass t file call (Number call ∷ w.acts)) (sym room) (let c = w.also.0 in record { home = c.home; held = c.held; next = c.next; work = c.work; acts_are = ap (λ l. Number call ∷ l) c.acts_are; locks = c.locks });
        sizes = subst (λ t. MeetsSize t (file_at m file).size p.caller (tag_of p call) off (came.at - off) came.fault (Number call ∷ w.acts)) (sym room) w.also.1;
        laid = subst (λ n. LieOn off n (take (came.at - off) iov.bytes) (laid_in size (own_entries w.acts))) (sym place)
            (subst (λ n. LieOn off came.at (take (came.at - off) (drop n iov.bytes)) (laid_in size (own_entries w.acts))) start w.laid);
        stamps = w.stamps ∙ ap (λ n. stamps_over size (span off n) (done_by (tag_of p call))) (sym place)
            ∙ sym (answered-so size some (done_by (tag_of p call)) (file_end m file) off (length iov.bytes) (came.at - off) came.fault met)
            ∙ ap (λ r. stamps_over size (answered_in size range false r) (done_by (tag_of p call))) (sym reply);
        reply = reply ∙ sym (reply-room (file_end m file) off (length iov.bytes) (came.at - off) came.fault room);
        lawful = λ segments joined.
            subst (λ r. IsTrue (is_lawful_reply m.geometry.grain size (file_at m file).blocks range true (Pwrite off segments) r)) (sym (reply ∙ sym (reply-room (file_end m file) off (length iov.bytes) (came.at - off) came.fault room)))
            (subst (λ l. IsTrue (is_lawful_reply m.geometry.grain size (file_at m file).blocks (range_in (file_end m file) off (length l)) true (Pwrite off segments) (write_reply (file_end m file) off (length l) (came.at - off) came.fault))) joined
            (lawful-write m.geometry.grain size (file_at m file).blocks off (came.at - off) segments came.fault
            (λ has. ends-short m size off to came.at came.fault segments (own_entries w.acts) (range_in (file_end m file) off (length (concat segments))) (subst (λ l. span_length (range_in (file_end m file) off (length l)) ≡ to - off) (sym joined) (let k : span_length range ≡ to - off = omega (arith, to_is) in k)) low ends w.cause)));
        cause = w.cause;
        stops = left-after size off to came.at came.fault low ends;
        bios = bios ∙ w.bios;
        budget = subst (λ n. KeepsBudget m file off n p (Number call ∷ w.acts)) read_is
            (budget-of m file off to came.fault p (Number call ∷ w.acts) (reads-behind m file off to came.fault (Number call ∷ []) w.acts refl w.few)
            (All-weaker (λ (e : Entry). IsTrue (may_write (tag_of p call) e.event)) (λ (e : Entry). IsTrue (keeps_read e.event)) (λ e is. write-keeps (tag_of p call) e.event is) (own_entries w.acts) w.did.made));
        moved = w.moved ∙ ap (λ n. moved_to (n + (came.at - off)) iov) start ∙ (let z : 0 + (came.at - off) ≡ came.at - off = omega arith in ap (λ n. moved_to n iov) z);
      }
    where
      far : (size off to at : ℕ) (f : Option Fault) → off ≤ at → to ≡ off + span_length (range_in (file_end m file) off (length iov.bytes)) → EndsAt size off to at f false → at - off ≤ span_length (range_in (file_end m file) off (length iov.bytes))
      far size off to at None low is ends = (let e = ends in omega (arith, e, low, is))
      far size off to at (Some f) low is ends = (let e = ends.0.0 in omega (arith, e, low, is))

  -- a write that had none
  pub pwrites-none : 0 < m.geometry.block_size → iov.place ≡ 0 → has_room (file_end m file) off (length iov.bytes) ≡ false → a ≡ b → q ≡ with_call p call → later ≡ iov → answer.reply ≡ write_reply (file_end m file) off (length iov.bytes) 0 None → answer.bios ≡ 0
      → Pwrites m file call off a b p q iov later answer
  pwrites-none some start room lane q_is same reply bios =
      let size = m.geometry.block_size in
      let range = range_in (file_end m file) off (length iov.bytes) in
      record {
        count = 0;
        fault = None;
        acts = Number call ∷ [];
        did = subst (λ r. CallActs m file (may_write (tag_of p call)) p r (Number call ∷ [])) (sym q_is) (call-numbered m file (may_write (tag_of p call)) p call);
        callers = All-nil (λ (e : Entry). e.caller ≡ p.caller);
        placed = All-cons (IsPlaced m file) (Number call) [] tt (All-nil (IsPlaced m file));
        run = refl;
        lane = subst (λ l. ServedBy a l []) lane (served-none a);
        class = subst (λ t. HoldsClass t file call (Number call ∷ [])) (sym room) (refl, refl);
        sizes = subst (λ t. MeetsSize t (file_at m file).size p.caller (tag_of p call) off 0 None (Number call ∷ [])) (sym room) refl;
        laid = subst (λ n. LieOn off n [] []) (let z : off ≡ off + 0 = omega arith in z) (lie-none off);
        stamps = sym (ap (λ r. stamps_over size (answered_in size range false r) (done_by (tag_of p call))) reply ∙ stamps-none size (file_end m file) off (length iov.bytes) (done_by (tag_of p call)) some room);
        reply = reply;
        lawful = λ segments joined.
            subst (λ r. IsTrue (is_lawful_reply m.geometry.grain size (file_at m file).blocks range true (Pwrite off segments) r)) (sym reply)
            (subst (λ l. IsTrue (is_lawful_reply m.geometry.grain size (file_at m file).blocks (range_in (file_end m file) off (length l)) true (Pwrite off segments) (write_reply (file_end m file) off (length l) 0 None))) joined
            (lawful-write m.geometry.grain size (file_at m file).blocks off 0 segments None
            (λ has. absurd (false≢true (sym room ∙ subst (λ l. has_room (file_end m file) off (length l) ≡ true) joined has)))));
        cause = tt;
        stops = tt;
        bios = bios;
        budget = budget-none m file off (read_to (file_end m file) off (length iov.bytes)) p (Number call ∷ []) refl;
        moved = same ∙ ap (λ n. moved_to n iov) start;
      }

  -- how a write leaves its pass
  pub leaves-so : MayCall m file call p → IsPassOf m q → HoldsNone q file → KeepsTickets (with_call p call) q → q.last ≡ call → Pwrites m file call off a b p q iov later answer → LeavesPass m file call p q
  leaves-so may of free tickets last w = record {
    of = of;
    last = last;
    caller = acted-caller w.acts p q w.did.acted;
    spare = acted-spare w.acts p q w.did.acted;
    shares = acted-shares w.acts p q w.did.acted w.did.closed;
    free = free;
    tickets = λ t is. tickets t (tickets-numbered p (with_call p call) call t refl is);
  }

-- a pass that may go to a call goes on through the file's cache once the call is numbered
pub call-goes : (m : MountView) (file : FileId) (call : ℕ) (p start : PassView) (by : Tag) → MayCall m file call p → (file_at m file).mode ≡ Cached → start ≡ with_call p call → by ≡ tag_of p call → GoesOn m file by start
call-goes m file call p start by may cached start_is by_is = subst (GoesOn m file by) (sym start_is) (record {
  of = record { stripes = may.of.stripes; sizes = may.of.sizes; locks = may.of.locks; queue = may.of.queue };
  caller = ap (λ (t : Tag). t.caller) by_is;
  exists = may.exists;
  cached = cached;
  shares = λ b has. (let s = may.shares b has in omega (arith, s));
})

-- an iov at its first byte has as many bytes next as it has
pub next-all : (iov : IovView) (n : ℕ) → iov.place ≡ 0 → AllHome iov → n ≤ length iov.bytes → HasNext iov n
next-all iov n start home few = record { within = omega (arith, start, few); home = λ b low below. home b (omega arith) (omega (arith, below, start, few)) }

-- the same, as the body of the call computes it
module _ (m : MountView) (file : FileId) (call off : ℕ) (a b : LaneView) (p q : PassView) (iov later : IovView) (answer : Answer) (may : MayCall m file call p) (first : iov.place ≡ 0) (sized : IsTrue (is_block_size m.geometry.block_size)) where
  -- of a write that had room
  module _ (by : Tag) (start : PassView) (end asked to : ℕ) (came : Progress) (by_is : by ≡ tag_of p call) (start_is : start ≡ with_call p call) (end_is : end ≡ file_end m file) (asked_is : asked ≡ length iov.bytes) (to_is : to ≡ read_to end off asked)
      (some : asked ≡ 0 → ⊥) (near : off < end) (w : WroteWith (IsLocked m file start.caller by off came) m file by off to a b start q iov later came) (ends : EndsAt m.geometry.block_size off to came.at came.fault false)
      (reply : answer.reply ≡ read_reply asked (to - off) (came.at - off) came.fault) (bios : answer.bios ≡ came.bios) where
    pub pwrites-from : Pwrites m file call off a b p q iov later answer
    pwrites-from =
        let reach : to ≡ off + span_length (range_in (file_end m file) off (length iov.bytes)) = to_is ∙ ap (λ n. read_to n off asked) end_is ∙ ap (read_to (file_end m file) off) asked_is in
        let met : to - off ≡ span_length (range_in (file_end m file) off (length iov.bytes)) = omega (arith, reach) in
        let room : has_room (file_end m file) off (length iov.bytes) ≡ true = sym (ap (λ n. has_room n off asked) end_is ∙ ap (has_room (file_end m file) off) asked_is) ∙ room-some end off asked some near in
        pwrites-so m file call off a b p q iov later answer to came (some-bytes m.geometry.block_size sized) first (to_is ∙ ap (λ n. read_to n off asked) end_is ∙ ap (read_to (file_end m file) off) asked_is) reach room
        (subst (λ t. WroteWith (IsLocked m file p.caller t off came) m file t off to a b (with_call p call) q iov later came) by_is
        (subst (λ v. WroteWith (IsLocked m file v.caller by off came) m file by off to a b v q iov later came) start_is w))
        ends (reply ∙ ap (λ n. read_reply n (to - off) (came.at - off) came.fault) asked_is ∙ ap (λ n. read_reply (length iov.bytes) n (came.at - off) came.fault) met) bios

    pub leaves-from : HoldsNone q file → LeavesPass m file call p q
    leaves-from free =
        leaves-so m file call off a b p q iov later answer may w.of free (λ t is. w.tickets t (subst (λ v. IsTicketOf v t) (sym start_is) is)) (w.last ∙ ap (λ (v : PassView). v.last) start_is) pwrites-from

  -- of one that had none
  module _ (end asked : ℕ) (end_is : end ≡ file_end m file) (asked_is : asked ≡ length iov.bytes) (lane : a ≡ b) (q_is : q ≡ with_call p call) (same : later ≡ iov) (bios : answer.bios ≡ 0) where
    none-from : has_room end off asked ≡ false → answer.reply ≡ write_reply end off asked 0 None → Pwrites m file call off a b p q iov later answer
    none-from room reply =
        pwrites-none m file call off a b p q iov later answer (some-bytes m.geometry.block_size sized) first
        (sym (ap (λ n. has_room n off asked) end_is ∙ ap (has_room (file_end m file) off) asked_is) ∙ room) lane q_is same (reply ∙ ap (λ n. write_reply n off asked 0 None) end_is ∙ ap (λ n. write_reply (file_end m file) off n 0 None) asked_is) bios

    pub pwrites-empty : asked ≡ 0 → answer.reply ≡ reply.Ok 0 Whole → Pwrites m file call off a b p q iov later answer
    pwrites-empty none reply = none-from (room-empty end off asked none) (reply ∙ sym (reply-empty end off asked none))

    pub pwrites-far : (asked ≡ 0 → ⊥) → end ≤ off → answer.reply ≡ reply.Err (fault.TooFar off end) 0 → Pwrites m file call off a b p q iov later answer
    pwrites-far some far reply = none-from (room-far end off asked far) (reply ∙ sym (reply-far end off asked some far))

    pub leaves-none : Pwrites m file call off a b p q iov later answer → LeavesPass m file call p q
    leaves-none w =
        leaves-so m file call off a b p q iov later answer may
        (subst (IsPassOf m) (sym q_is) (record { stripes = may.of.stripes; sizes = may.of.sizes; locks = may.of.locks; queue = may.of.queue }))
        (subst (λ v. HoldsNone v file) (sym q_is) may.free) (λ t is. subst (λ v. IsTicketOf v t) (sym q_is) is) (ap (λ (v : PassView). v.last) q_is) w
