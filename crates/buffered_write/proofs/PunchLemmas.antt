-- What a whole punch tells, from what it did under the exclusive class.
use Rattle.std.proofs.Common.{inl, inr, ◌≡◌, ℕ, ◌+◌, ◌-◌, ◌*◌, ◌<◌, ◌≤◌, ◌==◌, ◌∷◌, [], List, Bool, true, false, Some, None, refl, sym, ap, ◌∙◌, subst, arith, if◌then◌else◌}
use Rattle.std.specs.Prelude.{◌&&◌, All, IfSome, IsTrue, Option, replicate}
use Rattle.std.proofs.lemmas.Bool.{cases_eq, eq-eqb, eqb-true}
use Rattle.std.proofs.lemmas.Bool.Decides.{nat_tests}
use Rattle.std.proofs.lemmas.List.{take-replicate}
use Rattle.std.proofs.lemmas.List.Elements.{All-cons, All-nil}
use Rattle.iob_base.specs.Geometry.{is_block_size}
use Rattle.iob_base.specs.declared.answer.Answer.{Answer}
use Rattle.iob_base.specs.declared.answer.Fault.{Fault}
use Rattle.iob_base.specs.declared.answer.Fault.TheVariants as fault
use Rattle.iob_base.specs.declared.answer.Reply.TheVariants as reply
use Rattle.iob_base.specs.declared.answer.Stop.TheVariants.{Fault as Short}
use Rattle.iob_base.specs.declared.stamp.FileId.{FileId}
use Rattle.iob_base.specs.declared.stamp.Tag.{Tag}
use Rattle.inode_lock.specs.Calls.{IsLeft, IsWon}
use Rattle.inode_lock.specs.declared.word.Class.TheVariants.{Exclusive}
use Rattle.io_model.specs.Answered.{answered_in}
use Rattle.io_model.specs.Lawful.{is_data_reply, is_lawful_reply, is_nothing_done, may_meet}
use Rattle.io_model.specs.Parts.{Span, range_in, span, span_length}
use Rattle.io_model.specs.declared.script.Verb.TheVariants.{Punch}
use Rattle.fault_device.specs.LaneView.{LaneView}
use Rattle.range_core.specs.Stamps.{done_by}
use Rattle.range_core.specs.declared.entry.Entry.{Entry}
use Rattle.mount_parts.specs.MountView.{MountView, file_at}
use Rattle.mini_fs.specs.Acts.{Act, own_entries}
use Rattle.mini_fs.specs.Acts.Act.{Number}
use Rattle.mini_fs.specs.CallActs.{CallActs, lock_acts, size_acts, tag_of, with_call}
use Rattle.mini_fs.specs.Calls.{LeavesPass, MayCall}
use Rattle.mini_fs.specs.Holds.{BringsBack, HoldView, HoldsNone, IsHoldOf, TakesOut}
use Rattle.mini_fs.specs.Mappings.{file_end}
use Rattle.mini_fs.specs.PassView.{IsPassOf, PassView}
use Rattle.mini_fs.specs.Tickets.{IsTicketOf, KeepsTickets}
use Rattle.mini_fs.proofs.CallLemmas.{call-then}
use Rattle.call_parts.specs.Parts.{read_to, stamps_over}
use Rattle.call_parts.specs.Replies.{end_stop, read_reply}
use Rattle.call_parts.specs.Steps.{IsPlaced, ServedBy}
use Rattle.call_parts.specs.declared.progress.Progress.{Progress}
use Rattle.call_parts.proofs.NumberLemmas.{answered-so, call-numbered}
use Rattle.call_parts.proofs.PartLemmas.{over-none}
use Rattle.call_parts.proofs.ReadyLemmas.{some-bytes}
use Rattle.call_parts.proofs.ReplyLemmas.{both-true, end-so}
use Rattle.call_parts.proofs.StepLemmas.{served-none}
use Rattle.buffered_write.specs.Clears.{Clears, IsOfClearing, StopsClear, may_clear}
use Rattle.buffered_write.specs.Lays.{EndsAt, LieOn, laid_in}
use Rattle.buffered_write.specs.LaysLocked.{HoldsClass, LaidWith}
use Rattle.buffered_write.specs.Punches.{IsPunched, IsSizeless, Punches}
use Rattle.buffered_write.specs.Pwrites.{has_room}
use Rattle.buffered_write.proofs.LaidLemmas.{held-after, laid-held, laid-so, leaves-call}
use Rattle.buffered_write.proofs.DataReplyLemmas.{left-after}
use Rattle.buffered_write.specs.PartReads.{KeepsBudget}
use Rattle.buffered_write.proofs.PartReadLemmas.{budget-none, reads-behind}
use Rattle.buffered_write.proofs.ZeroBudgets.{clear-budget}
use Rattle.buffered_write.proofs.LayLemmas.{lie-none}
use Rattle.buffered_write.proofs.WriteReplyLemmas.{room-empty, room-far, room-some}

-- a range with bytes begins before the end of its file, and one without has none asked or begins past it
pub room-bytes : (end off asked : ℕ) → off < read_to end off asked → has_room end off asked ≡ true
room-bytes end off asked some = room-some end off asked (λ none. omega (arith, some, none)) (omega (arith, some))

pub room-none : (end off asked : ℕ) → read_to end off asked ≤ off → has_room end off asked ≡ false
room-none end off asked none = elim (cases_eq asked 0) [
  | inl e ↦ room-empty end off asked e
  | inr n ↦ room-far end off asked (omega (arith, none, n))
]

module _ (size : ℕ) (range : Span) (off asked : ℕ) where
  -- a fault that stops a clearing is one that a punch may meet
  may-punch : (f : Fault) → StopsClear f → may_meet true (Punch off asked) f ≡ true
  may-punch (fault.Eio lane before after) stops = refl
  may-punch (fault.Worn cookie) stops = refl
  may-punch fault.NoMemory stops = refl
  may-punch (fault.NoSpace wanted found) stops = absurd stops
  may-punch (fault.SyncEio seen count) stops = absurd stops
  may-punch (fault.Again why) stops = absurd stops
  may-punch (fault.NotAligned alignment) stops = absurd stops
  may-punch (fault.TooFar offset end) stops = absurd stops

  -- a fault stands only where bytes are left
  abbrev pub EndsShort : ℕ → Option Fault → Type 0
  EndsShort count None = count ≡ span_length range
  EndsShort count (Some f) = (count < span_length range) × StopsClear f

  punched-so : (count : ℕ) (f : Option Fault) → span_length range ≤ asked → EndsShort count f → is_data_reply size range true (Punch off asked) asked (read_reply asked (span_length range) count f) ≡ true
  punched-so count None few ends =
      subst (λ n. is_data_reply size range true (Punch off asked) asked (reply.Ok n (end_stop asked (span_length range))) ≡ true) (sym ends)
      (both-true _ _ _ (eq-eqb (span_length range) (span_length range) refl) (end-so asked (span_length range) few))
  punched-so count (Some f) few ends = at (count == 0) refl ends.0 (may-punch f ends.1)
    where
      at : (b : Bool) → (count == 0) ≡ b → count < span_length range → may_meet true (Punch off asked) f ≡ true → is_data_reply size range true (Punch off asked) asked (if b then reply.Err f 0 else reply.Ok count (Short f)) ≡ true
      at true e less may = ap (λ b. b && true) may
      at false e less may = grind (arith, nat_tests)

-- the reply of a punch is lawful
pub lawful-punch : (grain size blocks off asked count : ℕ) (f : Option Fault) → EndsShort size (range_in (blocks * size) off asked) off asked count f → (asked ≡ 0 → (count ≡ 0) × (f ≡ None))
    → IsTrue (is_lawful_reply grain size blocks (range_in (blocks * size) off asked) true (Punch off asked) (read_reply asked (span_length (range_in (blocks * size) off asked)) count f))
lawful-punch grain size blocks off asked count f ends nothing = at (asked == 0) refl
  where
    range : Span
    range = range_in (blocks * size) off asked

    at : (none : Bool) → (asked == 0) ≡ none → (if none then is_nothing_done (read_reply asked (span_length range) count f) else is_data_reply size range true (Punch off asked) asked (read_reply asked (span_length range) count f)) ≡ true
    at true e =
        let none = eqb-true asked 0 e in
        let n = nothing none in
        let met : span_length range ≡ 0 = omega (arith, none) in
        subst (λ g. is_nothing_done (read_reply asked (span_length range) count g) ≡ true) (sym n.1)
        (subst (λ k. is_nothing_done (reply.Ok k (end_stop asked (span_length range))) ≡ true) (sym n.0)
        (subst (λ k. is_nothing_done (reply.Ok 0 (end_stop k (span_length range))) ≡ true) (sym none) (subst (λ k. is_nothing_done (reply.Ok 0 (end_stop 0 k)) ≡ true) (sym met) refl)))
    at false e = punched-so size range off asked count f (omega arith) ends

-- a range was cleared under the exclusive class of its file
module _ (m : MountView) (file : FileId) (by : Tag) (from to : ℕ) (a b : LaneView) (p p1 p2 q : PassView) (h : HoldView) (came : Progress) (c : Clears m file by from to a b p1 p2 came) (is : IsHoldOf m p1 h) where
  pub still-held : IsHoldOf m p2 h
  still-held = held-after p1 p2 c.laid.acts h c.laid.steps.did.acted c.laid.steps.locks is

  abbrev Unlocked : List Act → Type 0
  Unlocked acts = (lock_acts acts ≡ []) × (size_acts acts ≡ []) × All (IsOfClearing m.geometry.block_size from to) (own_entries acts)

  unlocked : LaidWith Unlocked m (may_clear (file_at m file).mode by) file by from to (replicate (to - from) 0) a b p1 p2 came
  unlocked = laid-so m (may_clear (file_at m file).mode by) file by from to (replicate (to - from) 0) a b came Unlocked p1 p2 c.laid (c.laid.steps.locks, c.laid.steps.sizes, c.parts) c.few

  pub locked-punched : TakesOut (IsWon Exclusive) p file p1 h → KeepsTickets p p1 → BringsBack (IsLeft Exclusive) p2 h q → IsPassOf m q → KeepsTickets p2 q → LaidWith (IsPunched m file from to) m (may_clear (file_at m file).mode by) file by from to (replicate (to - from) 0) a b p q came
  locked-punched t first l of last =
      laid-held m (may_clear (file_at m file).mode by) file by from to (replicate (to - from) 0) a b came Unlocked (IsSizeless m from to) p p1 p2 q h t first is unlocked unlocked.also.0 l of last
      (λ more own sizes. (sizes ∙ unlocked.also.1, subst (All (IsOfClearing m.geometry.block_size from to)) (sym own) unlocked.also.2))

module _ (m : MountView) (file : FileId) (call off asked : ℕ) (a b : LaneView) (p q : PassView) (answer : Answer) where
  -- a punch with bytes in the file
  pub punches-so : (to : ℕ) (came : Progress) → 0 < m.geometry.block_size → to ≡ read_to (file_end m file) off asked → off < to → IfSome came.fault StopsClear
      → LaidWith (IsPunched m file off to) m (may_clear (file_at m file).mode (tag_of p call)) file (tag_of p call) off to (replicate (to - off) 0) a b (with_call p call) q came → EndsAt m.geometry.block_size off to came.at came.fault false
      → answer.reply ≡ read_reply asked (to - off) (came.at - off) came.fault → answer.bios ≡ came.bios → Punches m file call off asked a b p q answer
  punches-so to came some to_is less stops w ends replied bios =
      let size = m.geometry.block_size in
      let end = file_end m file in
      let range = range_in end off asked in
      let low = w.begins in
      let place : off + (came.at - off) ≡ came.at = omega (arith, low) in
      let met : to - off ≡ span_length range = omega (arith, to_is) in
      let room = room-bytes end off asked (subst (λ n. off < n) to_is less) in
      let few : came.at - off ≤ to - off = reach size to came.at came.fault ends in
      let told : answer.reply ≡ read_reply asked (span_length range) (came.at - off) came.fault = replied ∙ ap (λ n. read_reply asked n (came.at - off) came.fault) met in
      record {
        count = came.at - off;
        fault = came.fault;
        acts = Number call ∷ w.acts;
        did = call-then m file (may_clear (file_at m file).mode (tag_of p call)) p (with_call p call) q (Number call ∷ []) w.acts (call-numbered m file (may_clear (file_at m file).mode (tag_of p call)) p call) w.did;
        callers = w.callers;
        placed = All-cons (IsPlaced m file) (Number call) w.acts tt w.placed;
        run = w.run;
        lane = w.lane;
        class = subst (λ t. HoldsClass t file call (Number call ∷ w.acts)) (sym room) (let c = w.also.0 in record { home = c.home; held = c.held; next = c.next; work = c.work; acts_are = ap (λ l. Number call ∷ l) c.acts_are; locks = c.locks });
        sizes = w.also.1.0;
        laid = subst (λ n. LieOn off n (replicate (came.at - off) 0) (laid_in size (own_entries w.acts))) (sym place)
            (subst (λ l. LieOn off came.at l (laid_in size (own_entries w.acts))) (take-replicate (came.at - off) (to - off) 0 few) w.laid);
        parts = subst (λ n. All (IsOfClearing size off n) (own_entries w.acts)) to_is w.also.1.1;
        stamps = w.stamps ∙ ap (λ n. stamps_over size (span off n) (done_by (tag_of p call))) (sym place)
            ∙ sym (answered-so size some (done_by (tag_of p call)) end off asked (came.at - off) came.fault (omega (arith, few, met)))
            ∙ ap (λ r. stamps_over size (answered_in size range false r) (done_by (tag_of p call))) (sym told);
        reply = told ∙ ap (λ t. if t then read_reply asked (span_length range) (came.at - off) came.fault else reply.Ok 0 (end_stop asked 0)) (sym room);
        lawful = subst (λ r. IsTrue (is_lawful_reply m.geometry.grain size (file_at m file).blocks range true (Punch off asked) r)) (sym told)
            (lawful-punch m.geometry.grain size (file_at m file).blocks off asked (came.at - off) came.fault (short size to came.at came.fault met low ends stops) (λ none. absurd (omega (arith, none, to_is, less))));
        cause = w.cause;
        stops = left-after size off to came.at came.fault low ends;
        bios = bios ∙ w.bios;
        budget = subst (λ n. KeepsBudget m file off n p (Number call ∷ w.acts)) to_is
            (clear-budget m file (tag_of p call) off to came.fault p (Number call ∷ w.acts) (reads-behind m file off to came.fault (Number call ∷ []) w.acts refl w.few) w.did.made);
        dry = w.dry;
      }
    where
      reach : (size to at : ℕ) (f : Option Fault) → EndsAt size off to at f false → at - off ≤ to - off
      reach size to at None ends = (let e = ends in omega (arith, e))
      reach size to at (Some f) ends = (let e = ends.0.0 in omega (arith, e))

      short : (size to at : ℕ) (f : Option Fault) → to - off ≡ span_length (range_in (file_end m file) off asked) → off ≤ at → EndsAt size off to at f false → IfSome f StopsClear → EndsShort size (range_in (file_end m file) off asked) off asked (at - off) f
      short size to at None met low ends stops = ap (λ n. n - off) ends ∙ met
      short size to at (Some f) met low ends stops = ((let e = ends.0.0 in omega (arith, e, low, met)), stops)

  -- one without
  pub punches-none : (to : ℕ) → 0 < m.geometry.block_size → to ≡ read_to (file_end m file) off asked → to ≤ off → a ≡ b → q ≡ with_call p call → answer.reply ≡ read_reply asked 0 0 None → answer.bios ≡ 0 → Punches m file call off asked a b p q answer
  punches-none to some to_is none lane q_is replied bios =
      let size = m.geometry.block_size in
      let end = file_end m file in
      let range = range_in end off asked in
      let room = room-none end off asked (subst (λ n. n ≤ off) to_is none) in
      let met : 0 ≡ span_length range = omega (arith, to_is, none) in
      let told : answer.reply ≡ read_reply asked (span_length range) 0 None = replied ∙ ap (λ n. read_reply asked n 0 None) met in
      let z : off ≡ off + 0 = omega arith in
      record {
        count = 0;
        fault = None;
        acts = Number call ∷ [];
        did = subst (λ r. CallActs m file (may_clear (file_at m file).mode (tag_of p call)) p r (Number call ∷ [])) (sym q_is) (call-numbered m file (may_clear (file_at m file).mode (tag_of p call)) p call);
        callers = All-nil (λ (e : Entry). e.caller ≡ p.caller);
        placed = All-cons (IsPlaced m file) (Number call) [] tt (All-nil (IsPlaced m file));
        run = refl;
        lane = subst (λ l. ServedBy a l []) lane (served-none a);
        class = subst (λ t. HoldsClass t file call (Number call ∷ [])) (sym room) (refl, refl);
        sizes = refl;
        laid = subst (λ n. LieOn off n [] []) z (lie-none off);
        parts = All-nil (IsOfClearing size off (read_to end off asked));
        stamps = sym (ap (λ r. stamps_over size (answered_in size range false r) (done_by (tag_of p call))) told
            ∙ answered-so size some (done_by (tag_of p call)) end off asked 0 None (omega arith) ∙ ap (λ n. stamps_over size (span off n) (done_by (tag_of p call))) (sym z) ∙ over-none size some (done_by (tag_of p call)) off);
        reply = replied ∙ ap (λ t. if t then read_reply asked (span_length range) 0 None else reply.Ok 0 (end_stop asked 0)) (sym room);
        lawful = subst (λ r. IsTrue (is_lawful_reply m.geometry.grain size (file_at m file).blocks range true (Punch off asked) r)) (sym told) (lawful-punch m.geometry.grain size (file_at m file).blocks off asked 0 None met (λ none. (refl, refl)));
        cause = tt;
        stops = tt;
        bios = bios;
        budget = budget-none m file off (read_to end off asked) p (Number call ∷ []) refl;
        dry = λ dax. refl;
      }

  -- how a punch leaves its pass
  pub punch-leaves : MayCall m file call p → IsPassOf m q → HoldsNone q file → KeepsTickets (with_call p call) q → q.last ≡ call → Punches m file call off asked a b p q answer → LeavesPass m file call p q
  punch-leaves may of free tickets last w = leaves-call m file (may_clear (file_at m file).mode (tag_of p call)) call p q w.acts w.did of free tickets last

  -- the same, as the body of the call computes it
  module _ (may : MayCall m file call p) (sized : IsTrue (is_block_size m.geometry.block_size)) (by : Tag) (start : PassView) (end to : ℕ) (by_is : by ≡ tag_of p call) (start_is : start ≡ with_call p call) (end_is : end ≡ file_end m file) (to_is : to ≡ read_to end off asked) where
    to-read : to ≡ read_to (file_end m file) off asked
    to-read = to_is ∙ ap (λ n. read_to n off asked) end_is

    module _ (came : Progress) (less : off < to) (stops : IfSome came.fault StopsClear) (w : LaidWith (IsPunched m file off to) m (may_clear (file_at m file).mode by) file by off to (replicate (to - off) 0) a b start q came) (ends : EndsAt m.geometry.block_size off to came.at came.fault false)
        (replied : answer.reply ≡ read_reply asked (to - off) (came.at - off) came.fault) (bios : answer.bios ≡ came.bios) where
      pub punches-from : Punches m file call off asked a b p q answer
      punches-from =
          punches-so to came (some-bytes m.geometry.block_size sized) to-read less stops
          (subst (λ t. LaidWith (IsPunched m file off to) m (may_clear (file_at m file).mode t) file t off to (replicate (to - off) 0) a b (with_call p call) q came) by_is
          (subst (λ v. LaidWith (IsPunched m file off to) m (may_clear (file_at m file).mode by) file by off to (replicate (to - off) 0) a b v q came) start_is w)) ends replied bios

      pub leaves-from : HoldsNone q file → LeavesPass m file call p q
      leaves-from free = punch-leaves may w.of free (λ t is. w.tickets t (subst (λ v. IsTicketOf v t) (sym start_is) is)) (w.last ∙ ap (λ (v : PassView). v.last) start_is) punches-from

    module _ (none : to ≤ off) (lane : a ≡ b) (q_is : q ≡ with_call p call) (replied : answer.reply ≡ read_reply asked 0 0 None) (bios : answer.bios ≡ 0) where
      pub none-punches : Punches m file call off asked a b p q answer
      none-punches = punches-none to (some-bytes m.geometry.block_size sized) to-read none lane q_is replied bios

      pub none-leaves : LeavesPass m file call p q
      none-leaves =
          punch-leaves may (subst (IsPassOf m) (sym q_is) (record { stripes = may.of.stripes; sizes = may.of.sizes; locks = may.of.locks; queue = may.of.queue }))
          (subst (λ v. HoldsNone v file) (sym q_is) may.free) (λ t is. subst (λ v. IsTicketOf v t) (sym q_is) is) (ap (λ (v : PassView). v.last) q_is) none-punches
