-- The acts of calls that write dirty blocks to the device.
use Rattle.std.proofs.Common.{◌≡◌, ℕ, ◌-◌, ◌*◌, ◌≤◌, ◌<◌, inl, inr, min, Bool, true, false, List, [], ◌∷◌, ◌++◌, Some, None, length, refl, sym, ap, ◌∙◌, subst, arith}
use Rattle.std.specs.Prelude.{◌&&◌, IfSome, IsTrue, Option, slice_get}
use Rattle.std.proofs.lemmas.Bool.{le-leb}
use Rattle.std.proofs.lemmas.List.Elements.{All-weaker}
use Rattle.iob_base.specs.declared.answer.Answer.{Answer}
use Rattle.iob_base.specs.declared.answer.Fault.{Fault}
use Rattle.iob_base.specs.declared.answer.Fault.TheVariants as faults
use Rattle.iob_base.specs.declared.stamp.FileId.{FileId}
use Rattle.io_model.specs.Lawful.{is_count_reply, may_meet}
use Rattle.io_model.specs.declared.script.Verb.{Verb}
use Rattle.io_model.specs.declared.script.Verb.TheVariants.{Wb}
use Rattle.fault_device.specs.LaneView.{LaneView}
use Rattle.range_core.specs.BlockStates.{BlockState}
use Rattle.range_core.specs.declared.entry.Entry.{Entry}
use Rattle.mount_parts.specs.MountView.{MountView, file_at}
use Rattle.mini_fs.specs.Acts.{Act, own_entries}
use Rattle.mini_fs.specs.Acts.Act.{Turn, SizeTurn, Busy, Open, Close, Take, Refused, Leave, Run, Note, Number}
use Rattle.mini_fs.specs.CallActs.{loans_in, with_call}
use Rattle.mini_fs.specs.Calls.{HasShares, LeavesPass, MayCall}
use Rattle.mini_fs.specs.PassView.{IsPassOf, PassView}
use Rattle.mini_fs.proofs.CallEnds.{acted-caller, acted-locks, acted-shares, acted-spare}
use Rattle.mini_fs.proofs.CallLemmas.{call-then}
use Rattle.call_parts.specs.Causes.{IsCaused}
use Rattle.call_parts.specs.Steps.{IsQuiet, Steps, dones_in}
use Rattle.call_parts.proofs.NumberLemmas.{call-numbered, tickets-numbered}
use Rattle.call_parts.proofs.StepLemmas.{quiet-stamps, steps-none}
use Rattle.writeback_ioend.specs.AnswersWriteBack.{AnswersWriteBack}
use Rattle.writeback_ioend.specs.WriteRuns.{WritesOut, WritesRun, end_in, written_reply}
use Rattle.writeback_ioend.specs.Writebacks.{AsksAscend, AsksAt, AsksDue, IsDueState, IsMet, StopsWriteback, WasFound, WritesBack, all_written, writes_back}
use Rattle.writeback_ioend.specs.declared.walk.Written.{Written}
use Rattle.writeback_ioend.proofs.Moves.{writes-quiet}

-- a pass with the number of another call is the same else
pub shares-begun : (m : MountView) (file : FileId) (call : ℕ) (p q : PassView) → q ≡ with_call p call → MayCall m file call p → HasShares m file 64 q
shares-begun m file call p q is may = subst (HasShares m file 64) (sym is) (λ b has. let s = may.shares b has in omega (arith, s))

pub of-begun : (m : MountView) (call : ℕ) (p q : PassView) → q ≡ with_call p call → IsPassOf m p → IsPassOf m q
of-begun m call p q is of = subst (IsPassOf m) (sym is) (record { stripes = of.stripes; sizes = of.sizes; locks = of.locks; queue = of.queue })

module _ (m : MountView) (file : FileId) (b : ℕ) where
  -- what a turn found before the number of the call was noted
  found-numbered : (So : BlockState → Type 0) (call : ℕ) (p : PassView) (acts : List Act) → WasFound So m file b (with_call p call) acts → WasFound So m file b p (Number call ∷ acts)
  found-numbered So call p acts f = record {
    before = Number call ∷ f.before;
    others = f.others;
    own = f.own;
    after = f.after;
    acts_are = ap (λ l. Number call ∷ l) f.acts_are;
    cell = f.cell;
    cell_is = f.cell_is;
    opening = f.opening;
    opening_is = f.opening_is;
    found = f.found;
  }

  -- a block that was not missed
  met-numbered : (waits : Bool) (call : ℕ) (p : PassView) (acts : List Act) → IsMet waits m file b (with_call p call) acts → IsMet waits m file b p (Number call ∷ acts)
  met-numbered waits call p acts (inl f) = inl (found-numbered _ call p acts f)
  met-numbered waits call p acts (inr (inl one)) = inr (inl one)
  met-numbered waits call p acts (inr (inr (never, f))) = inr (inr (never, found-numbered _ call p acts f))

-- what acts ask for, before which the number of the call was noted
module _ (m : MountView) (file : FileId) (call : ℕ) (p : PassView) where
  asks-once : (before : List Act) (a : Act) → AsksAt m file (with_call p call) before a → AsksAt m file p (Number call ∷ before) a
  asks-once before (Turn stripe others own) asks = λ block most e. found-numbered m file block IsDueState call p before (asks block most e)
  asks-once before (SizeTurn cell others own) asks = tt
  asks-once before (Busy stripe word) asks = tt
  asks-once before (Open stripe) asks = tt
  asks-once before (Close stripe) asks = tt
  asks-once before (Take at c old new) asks = tt
  asks-once before (Refused at c old new) asks = tt
  asks-once before (Leave at c old new) asks = tt
  asks-once before (Run bios) asks = tt
  asks-once before (Note begun) asks = tt
  asks-once before (Number n) asks = tt

  asks-numbered : (before acts : List Act) → AsksDue m file (with_call p call) before acts → AsksDue m file p (Number call ∷ before) acts
  asks-numbered before [] asks = tt
  asks-numbered before (a ∷ acts) asks = (asks-once before a asks.0, asks-numbered (before ++ a ∷ []) acts asks.1)

-- Steps of such calls, without a number of the call and with one
module _ (m : MountView) (file : FileId) (waits : Bool) (from to : ℕ) (a b : LaneView) where
  pub out-plain : (p q : PassView) (acts : List Act) (stopped : Option Fault) → Steps m file writes_back a b p q acts → AsksAscend waits from (own_entries acts) → AsksDue m file p [] acts → loans_in acts ≤ to - from → all_written (own_entries acts) ≤ loans_in acts * 16 → length (dones_in (own_entries acts)) ≡ loans_in acts
      → (stopped ≡ None → (i : ℕ) → from ≤ i → i < to → IsMet waits m file i p acts) → IfSome stopped StopsWriteback → IfSome stopped (IsCaused m (own_entries acts)) → WritesOut m file waits from to a b p q acts stopped
  out-plain p q acts stopped steps ascending sought few enough returned met stops cause = record {
    did = steps.did;
    callers = steps.callers;
    run = steps.run;
    lane = steps.lane;
    locks = steps.locks;
    sizes = steps.sizes;
    stamps = quiet-stamps m.geometry.block_size (own_entries acts) (All-weaker (λ (e : Entry). IsTrue (writes_back e.event)) IsQuiet (λ e mine. writes-quiet e.event mine) (own_entries acts) steps.did.made);
    ascending = ascending;
    sought = sought;
    few_bios = few;
    enough_bios = enough;
    returned = returned;
    met = met;
    stops = stops;
    cause = cause;
  }

  pub out-numbered : (call : ℕ) (p q : PassView) (acts : List Act) (stopped : Option Fault) → Steps m file writes_back a b (with_call p call) q acts → AsksAscend waits from (own_entries acts) → AsksDue m file (with_call p call) [] acts → loans_in acts ≤ to - from → all_written (own_entries acts) ≤ loans_in acts * 16 → length (dones_in (own_entries acts)) ≡ loans_in acts
      → (stopped ≡ None → (i : ℕ) → from ≤ i → i < to → IsMet waits m file i (with_call p call) acts) → IfSome stopped StopsWriteback → IfSome stopped (IsCaused m (own_entries acts)) → WritesOut m file waits from to a b p q (Number call ∷ acts) stopped
  out-numbered call p q acts stopped steps ascending sought few enough returned met stops cause =
      let plain = out-plain (with_call p call) q acts stopped steps ascending sought few enough returned met stops cause in
      record {
        did = call-then m file writes_back p (with_call p call) q (Number call ∷ []) acts (call-numbered m file writes_back p call) steps.did;
        callers = plain.callers;
        run = plain.run;
        lane = plain.lane;
        locks = plain.locks;
        sizes = plain.sizes;
        stamps = plain.stamps;
        ascending = ascending;
        sought = (tt, asks-numbered m file call p [] acts sought);
        few_bios = few;
        enough_bios = enough;
        returned = returned;
        met = λ none i low high. met-numbered m file i waits call p acts (met none i low high);
        stops = stops;
        cause = cause;
      }

-- a call that took no class leaves its pass as all calls do
pub call-leaves : (m : MountView) (file : FileId) (call : ℕ) (a b : LaneView) (p q : PassView) (acts : List Act) → MayCall m file call p → Steps m file writes_back a b (with_call p call) q acts → LeavesPass m file call p q
call-leaves m file call a b p q acts may steps =
    let did = steps.did in
    record {
      of = steps.of;
      last = steps.last;
      caller = acted-caller acts (with_call p call) q did.acted;
      spare = acted-spare acts (with_call p call) q did.acted;
      shares = acted-shares acts (with_call p call) q did.acted did.closed;
      free = (may.free.0, ap (λ l. slice_get l file.0) (acted-locks acts (with_call p call) q did.acted steps.locks) ∙ may.free.1);
      tickets = λ t is. steps.tickets t (tickets-numbered p (with_call p call) call t refl is);
    }

-- where a file has no block of a run, nothing is written
pub none-written : (m : MountView) (file : FileId) (waits : Bool) (from n to : ℕ) (lane : LaneView) (p : PassView) (written : Written) → IsPassOf m p → to ≡ end_in m file from n → to ≤ from
    → written.blocks ≡ 0 → written.bios ≡ 0 → written.failed ≡ None → written.fault ≡ None → WritesRun m file waits from n lane lane p p written
none-written m file waits from n to lane p written of is over blocks bios failed fault = record {
  back = record {
    acts = [];
    steps = steps-none m file writes_back lane p of;
    begun = refl;
    ascending = tt;
    blocks = blocks;
    few = omega (arith, blocks);
    bios = bios;
    sought = tt;
    few_bios = omega (arith, bios);
    enough_bios = omega (arith, blocks);
    returned = refl;
    turns = omega arith;
    failed = failed;
    met = λ none b low high. absurd (omega (arith, is, over, low, high));
    stops = subst (λ f. IfSome f StopsWriteback) (sym fault) tt;
    cause = subst (λ f. IfSome f (IsCaused m [])) (sym fault) tt;
  };
  none = λ empty. (refl, fault);
}

-- what a walk wrote is what is written of its run
pub run-written : (m : MountView) (file : FileId) (waits : Bool) (from n to : ℕ) (a b : LaneView) (p q : PassView) (written : Written) → to ≡ end_in m file from n → from < to → WritesBack m file waits from to a b p q written → WritesRun m file waits from n a b p q written
run-written m file waits from n to a b p q written is some back = record {
  back = subst (λ k. WritesBack m file waits from k a b p q written) is back;
  none = λ empty. absurd (omega (arith, is, some, empty));
}

-- the reply of such a call is lawful
stop-lawful : (verb : Verb) → may_meet true verb faults.NoMemory ≡ true → ((cookie : ℕ) → may_meet true verb (faults.Worn cookie) ≡ true) → (f : Fault) → StopsWriteback f → may_meet true verb f ≡ true
stop-lawful verb memory worn faults.NoMemory is = memory
stop-lawful verb memory worn (faults.Worn cookie) is = worn cookie
stop-lawful verb memory worn (faults.Eio lane before after) is = absurd is
stop-lawful verb memory worn (faults.SyncEio seen count) is = absurd is
stop-lawful verb memory worn (faults.Again why) is = absurd is
stop-lawful verb memory worn (faults.NotAligned alignment) is = absurd is
stop-lawful verb memory worn (faults.TooFar offset end) is = absurd is
stop-lawful verb memory worn (faults.NoSpace wanted found) is = absurd is

pub reply-counts : (verb : Verb) (most count : ℕ) (stopped : Option Fault) → may_meet true verb faults.NoMemory ≡ true → ((cookie : ℕ) → may_meet true verb (faults.Worn cookie) ≡ true) → count ≤ most → IfSome stopped StopsWriteback → is_count_reply most true verb (written_reply count stopped) ≡ true
reply-counts verb most count None memory worn few stops = ap (λ b. b && true) (le-leb count most few)
reply-counts verb most count (Some f) memory worn few stops = ap (λ b. b && true) (stop-lawful verb memory worn f stops)

-- a writeback, from the pass with its number on
module _ (m : MountView) (file : FileId) (call from n : ℕ) (a b : LaneView) (p start q : PassView) (written : Written) (first : start ≡ with_call p call) (run : WritesRun m file false from n a b start q written) where
  begun-run : WritesRun m file false from n a b (with_call p call) q written
  begun-run = subst (λ v. WritesRun m file false from n a b v q written) first run

  pub write-answers : (answer : Answer) → answer.reply ≡ written_reply written.blocks written.fault → answer.bios ≡ written.bios → AnswersWriteBack m file from n a b p q answer
  write-answers answer is sent =
      let w = begun-run.back in
      let blocks = (file_at m file).blocks in
      let few = w.few in
      let wrote = w.blocks in
      let lent = w.bios in
      let few' = w.few_bios in
      let enough = w.enough_bios in
      let turns = w.turns in
      record {
        acts = Number call ∷ w.acts;
        stopped = written.fault;
        out = out-numbered m file false from (end_in m file from n) a b call p q w.acts written.fault w.steps w.ascending w.sought (omega (arith, lent, few')) (omega (arith, lent, wrote, enough)) w.returned w.met w.stops w.cause;
        none = begun-run.none;
        reply = is ∙ ap (λ k. written_reply k written.fault) w.blocks;
        lawful = λ range. ap (is_count_reply (min n (blocks - from)) true (Wb from n)) is ∙ reply-counts (Wb from n) (min n (blocks - from)) written.blocks written.fault refl (λ cookie. refl) (omega (arith, few)) w.stops;
        bios = sent ∙ w.bios;
        turns = omega (arith, sent, turns);
      }

  pub write-leaves : MayCall m file call p → LeavesPass m file call p q
  write-leaves may = call-leaves m file call a b p q begun-run.back.acts may begun-run.back.steps
