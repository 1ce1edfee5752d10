-- What a cut tells, from what it cleared and what it did at the size and at the lock of its file.
use Rattle.std.proofs.Common.{inl, inr, ◌≡◌, ℕ, ◌+◌, ◌-◌, ◌/◌, if◌then◌else◌, ◌++◌, ◌∷◌, [], List, replicate, take, false, Some, None, Ok, Err, refl, sym, ap, ◌∙◌, subst, arith, append-nil}
use Rattle.std.specs.Prelude.{All, IfSome, Option, Result, nat_lt}
use Rattle.std.proofs.lemmas.Bool.Decides.{nat_tests}
use Rattle.std.proofs.lemmas.List.Elements.{All-nil}
use Rattle.std.specs.declared.alloc.AllocError.{AllocError}
use Rattle.iob_base.specs.declared.answer.Fault.{Fault}
use Rattle.iob_base.specs.declared.answer.Fault.TheVariants.{NoMemory}
use Rattle.iob_base.specs.declared.stamp.FileId.{FileId}
use Rattle.iob_base.specs.declared.stamp.Tag.{Tag}
use Rattle.inode_lock.specs.Calls.{IsLeft, IsWon}
use Rattle.inode_lock.specs.declared.word.Class.TheVariants.{Exclusive}
use Rattle.io_model.specs.Parts.{span}
use Rattle.fault_device.specs.LaneView.{LaneView}
use Rattle.range_core.specs.Stamps.{done_by, stamps_from}
use Rattle.range_core.specs.declared.entry.Entry.{Entry}
use Rattle.iob_base.specs.declared.stamp.Stamp.{Stamp}
use Rattle.size_core.specs.declared.entry.SizeEvent.{SizeEvent}
use Rattle.size_core.specs.declared.entry.SizeEvent.TheVariants.{Ready, See}
use Rattle.mount_parts.specs.MountView.{MountView, file_at}
use Rattle.mini_fs.specs.Acts.{Act, own_entries}
use Rattle.mini_fs.specs.Acts.Act.{SizeTurn}
use Rattle.mini_fs.specs.CallActs.{lock_acts, size_acts}
use Rattle.mini_fs.specs.Calls.{HasShares}
use Rattle.mini_fs.specs.Holds.{BringsBack, HoldView, IsHoldOf, TakesOut}
use Rattle.mini_fs.specs.Mappings.{file_end}
use Rattle.mini_fs.specs.PassView.{IsPassOf, PassView}
use Rattle.mini_fs.specs.SizeTurns.{HasSize, size_at}
use Rattle.mini_fs.specs.Tickets.{KeepsTickets}
use Rattle.mini_fs.proofs.CallEnds.{acted-caller}
use Rattle.mini_fs.proofs.CallLemmas.{lock_acts-append, own_entries-append, size_acts-append}
use Rattle.call_parts.specs.Causes.{IsCaused}
use Rattle.call_parts.specs.Parts.{stamps_over}
use Rattle.call_parts.specs.declared.progress.Progress.{Progress}
use Rattle.call_parts.proofs.StepLemmas.{steps-none}
use Rattle.buffered_write.specs.Clears.{Clears, IsOfClearing, StopsClear, may_clear}
use Rattle.buffered_write.specs.Cuts.{CutsAt, SawSize, room_events, settled}
use Rattle.buffered_write.specs.Grows.{AreSizeTurns, MadeRoom, TurnedAtSize, size_entry}
use Rattle.buffered_write.specs.Lays.{EndsAt, GoesAt, LieOn}
use Rattle.buffered_write.specs.LaysLocked.{HeldExclusive}
use Rattle.buffered_write.specs.Pwrites.{IsPlain, progress}
use Rattle.buffered_write.specs.Truncates.{ClearedWith, CutsInRoom, CutsLocked, CutsUnlocked, MeetsOnly, StopsCut, cut_end}
use Rattle.call_parts.specs.Budgets.{IsSound}
use Rattle.buffered_write.proofs.PartReadLemmas.{quiet-reads}
use Rattle.buffered_write.proofs.LaidLemmas.{laid-before, laid-behind, laid-held, laid-other, laid-so}
use Rattle.buffered_write.proofs.LayLemmas.{lie-none}
use Rattle.buffered_write.proofs.PwriteLemmas.{bare-size}

-- where a clearing ends that was to end at a place
pub stops-so : (size from to at : ℕ) (f : Option Fault) → EndsAt size from to at f false → StopsCut size from to at f
stops-so size from to at None ends = ends
stops-so size from to at (Some f) ends = elim ends.0.1 [ inl e ↦ inl e | inr e ↦ inr (ends.0.0, e) ]

-- no block has bytes from a place up to itself
over-itself : (size at : ℕ) (stamp : Stamp) → stamps_over size (span at at) stamp ≡ []
over-itself size at stamp =
    let none : nat_lt at at ≡ false = grind (arith, nat_tests) in
    ap (λ b. stamps_from (at / size) (if b then (at - 1) / size + 1 - at / size else 0) stamp) none

module _ (m : MountView) (file : FileId) (by : Tag) (from : ℕ) where
  -- what is told of the acts of a cut besides, with what they did to blocks
  abbrev With : ℕ → (List Act → Type 0) → List Act → Type 0
  With to Also acts = Also acts × All (IsOfClearing m.geometry.block_size from to) (own_entries acts)

  cleared-plain : (to : ℕ) (a b : LaneView) (p q : PassView) (came : Progress) → Clears m file by from to a b p q came → ClearedWith IsPlain m file by from to a b p q came
  cleared-plain to a b p q came c = laid-so m (may_clear (file_at m file).mode by) file by from to (replicate (to - from) 0) a b came (With to IsPlain) p q c.laid ((c.laid.steps.locks, c.laid.steps.sizes), c.parts) c.few

  -- nothing was cleared: there was nothing to clear, or memory was wanting
  pub cleared-none : (to : ℕ) (a : LaneView) (p : PassView) (fault : Option Fault) → IfSome fault (IsCaused m []) → IsPassOf m p → Clears m file by from to a a p p (progress from 0 fault)
  cleared-none to a p fault cause of =
      let zero : from - from ≡ 0 = omega arith in
      record {
        laid = record {
          acts = [];
          steps = steps-none m file (may_clear (file_at m file).mode by) a p of;
          begins = omega arith;
          laid = subst (λ n. LieOn from from (take n (replicate (to - from) 0)) []) (sym zero) (lie-none from);
          stamps = sym (over-itself m.geometry.block_size from (done_by by));
          cause = cause;
          bios = omega arith;
          dry = λ dax. refl;
        };
        parts = All-nil (IsOfClearing m.geometry.block_size from to);
        few = quiet-reads m file from to fault [] (All-nil (λ (e : Entry). IsSound e.event)) refl;
      }

  wanting-none : (to : ℕ) (a : LaneView) (p : PassView) → IsPassOf m p → ClearedWith IsPlain m file by from to a a p p (progress from 0 (Some NoMemory))
  wanting-none to a p of = cleared-plain to a a p p (progress from 0 (Some NoMemory)) (cleared-none to a p (Some NoMemory) tt of)

  -- the size was settled behind a clearing
  pub cut-settled : (to : ℕ) (a b : LaneView) (p q r : PassView) (came : Progress) → HasSize m file → Clears m file by from to a b p q came → TurnedAtSize m file (settled by from came.fault) q r → IsPassOf m r → KeepsTickets q r
      → ClearedWith (MeetsOnly m file p.caller (settled by from came.fault ∷ [])) m file by from to a b p r came
  cut-settled to a b p q r came sized c t of tickets =
      let event = settled by from came.fault in
      let turn : Act = SizeTurn (size_at m file) t.others (size_entry q.caller event) in
      let caller : q.caller ≡ p.caller = acted-caller c.laid.acts p q c.laid.steps.did.acted in
      let plain = cleared-plain to a b p q came c in
      laid-before m (may_clear (file_at m file).mode by) file by from to (replicate (to - from) 0) a b came (With to IsPlain) (With to (MeetsOnly m file p.caller (event ∷ []))) p q r turn (bare-size m file by event q r t.others sized t.did tickets) of plain (
        (
          lock_acts-append plain.acts (turn ∷ []) ∙ append-nil (lock_acts plain.acts) ∙ plain.also.0.0,
          subst (AreSizeTurns p.caller (size_at m file) (event ∷ [])) (sym (size_acts-append plain.acts (turn ∷ []) ∙ ap (λ l. l ++ turn ∷ []) plain.also.0.1)) (refl, ap (λ n. size_entry n event) caller, tt),
        ),
        subst (All (IsOfClearing m.geometry.block_size from to)) (sym (own_entries-append plain.acts (turn ∷ []) ∙ append-nil (own_entries plain.acts))) plain.also.1,
      )

  -- a clearing for whose size room was made first, and one without memory for it
  pub room-made : (to : ℕ) (a b : LaneView) (p q r : PassView) (came : Progress) (done : Unit {0}) → HasSize m file → MadeRoom m file p q (Ok done) → KeepsTickets p q → ClearedWith (MeetsOnly m file q.caller (settled by from came.fault ∷ [])) m file by from to a b q r came
      → CutsInRoom m file by from to a b p r came
  room-made to a b p q r came done sized made tickets w =
      let rest : List SizeEvent = settled by from came.fault ∷ [] in
      let turn : Act = SizeTurn (size_at m file) made.turned.others (size_entry p.caller (Ready (Ok done))) in
      let bare = bare-size m file by (Ready (Ok done)) p q made.turned.others sized made.turned.did tickets in
      record {
        room = Ok done;
        refused = tt;
        cleared = laid-behind m (may_clear (file_at m file).mode by) file by from to (replicate (to - from) 0) a b came (With to (MeetsOnly m file q.caller rest)) (With to (MeetsOnly m file p.caller (Ready (Ok done) ∷ rest))) p q r turn bare w (
          (w.also.0.0, (refl, refl, subst (λ n. AreSizeTurns n (size_at m file) rest (size_acts w.acts)) bare.caller w.also.0.1)),
          w.also.1,
        );
      }

  pub room-none : (to : ℕ) (a : LaneView) (p q : PassView) (e : AllocError) → HasSize m file → MadeRoom m file p q (Err e) → IsPassOf m q → KeepsTickets p q → CutsInRoom m file by from to a a p q (progress from 0 (Some NoMemory))
  room-none to a p q e sized made of tickets =
      let turn : Act = SizeTurn (size_at m file) made.turned.others (size_entry p.caller (Ready (Err e))) in
      let none = wanting-none to a q of in
      record {
        room = Err e;
        refused = ((let z : from - from ≡ 0 = omega arith in z), refl);
        cleared = laid-behind m (may_clear (file_at m file).mode by) file by from to (replicate (to - from) 0) a a (progress from 0 (Some NoMemory)) (With to IsPlain) (With to (MeetsOnly m file p.caller (Ready (Err e) ∷ []))) p q q turn
            (bare-size m file by (Ready (Err e)) p q made.turned.others sized made.turned.did tickets) none (
              (none.also.0.0, (refl, refl, subst (AreSizeTurns p.caller (size_at m file) []) (sym none.also.0.1) tt)),
              none.also.1,
            );
      }

  -- what a cut that found this size is told to have done at it
  abbrev Found : ℕ → Progress → Option ℕ → List Act → Type 0
  Found caller came found acts = CutsAt (size_at m file) caller (file_end m file) by from (came.at - from) came.fault found (size_acts acts)

  -- a cut that had looked at the size first
  pub cut-seen : (found to : ℕ) (a b : LaneView) (p q r : PassView) (came : Progress) → HasSize m file → SawSize m file by p q (Ok found) → KeepsTickets p q → to ≡ cut_end m file from (Some found) → CutsInRoom m file by from to a b q r came → IfSome came.fault StopsClear
      → StopsCut m.geometry.block_size from to came.at came.fault → CutsUnlocked m file by from a b p r came
  cut-seen found to a b p q r came sized saw tickets to_is w fault stops =
      let turn : Act = SizeTurn (size_at m file) saw.turned.others (size_entry p.caller (See by (Ok found))) in
      let bare = bare-size m file by (See by (Ok found)) p q saw.turned.others sized saw.turned.did tickets in
      let cleared = laid-behind m (may_clear (file_at m file).mode by) file by from to (replicate (to - from) 0) a b came (With to (MeetsOnly m file q.caller (rooms w.room))) (With to (λ acts. (lock_acts acts ≡ []) × Found p.caller came (Some found) acts)) p q r turn bare w.cleared (
        (
          w.cleared.also.0.0,
          record {
            seen = Ok found;
            room = w.room;
            turns = (refl, refl, subst (λ n. AreSizeTurns n (size_at m file) (rooms w.room) (size_acts w.cleared.acts)) bare.caller w.cleared.also.0.1);
            found_is = refl;
            within = saw.within;
            unseen = tt;
            refused = w.refused;
          },
        ),
        w.cleared.also.1,
      ) in
      record {
        found = Some found;
        cleared = subst (λ n. ClearedWith (λ acts. (lock_acts acts ≡ []) × Found p.caller came (Some found) acts) m file by from n a b p r came) to_is cleared;
        fault = fault;
        stops = subst (λ n. StopsCut m.geometry.block_size from n came.at came.fault) to_is stops;
      }
    where
      rooms : Result (Unit {0}) AllocError → List SizeEvent
      rooms room = room_events by from came.fault room

  -- and one without memory for the look
  pub cut-unseen : (a : LaneView) (p q : PassView) (e : AllocError) → HasSize m file → SawSize m file by p q (Err e) → IsPassOf m q → KeepsTickets p q → CutsUnlocked m file by from a a p q (progress from 0 (Some NoMemory))
  cut-unseen a p q e sized saw of tickets =
      let came = progress from 0 (Some NoMemory) in
      let turn : Act = SizeTurn (size_at m file) saw.turned.others (size_entry p.caller (See by (Err e))) in
      let to = cut_end m file from None in
      let none = wanting-none to a q of in
      let zero : from - from ≡ 0 = omega arith in
      record {
        found = None;
        cleared = laid-behind m (may_clear (file_at m file).mode by) file by from to (replicate (to - from) 0) a a came (With to IsPlain) (With to (λ acts. (lock_acts acts ≡ []) × Found p.caller came None acts)) p q q turn (bare-size m file by (See by (Err e)) p q saw.turned.others sized saw.turned.did tickets) none (
          (
            none.also.0.0,
            record {
              seen = Err e;
              room = Err e;
              turns = (refl, refl, subst (AreSizeTurns p.caller (size_at m file) []) (sym none.also.0.1) tt);
              found_is = refl;
              within = tt;
              unseen = (zero, refl);
              refused = (zero, refl);
            },
          ),
          none.also.1,
        );
        fault = tt;
        stops = inl refl;
      }

  -- a cut under the exclusive class
  pub cut-locked : (a b : LaneView) (p p1 p2 q : PassView) (h : HoldView) (came : Progress) → TakesOut (IsWon Exclusive) p file p1 h → KeepsTickets p p1 → IsHoldOf m p1 h → CutsUnlocked m file by from a b p1 p2 came → BringsBack (IsLeft Exclusive) p2 h q → IsPassOf m q → KeepsTickets p2 q
      → CutsLocked m file by from a b p q came
  cut-locked a b p p1 p2 q h came t first is w l of last =
      let to = cut_end m file from w.found in
      let caller : p1.caller ≡ p.caller = ap (λ (v : PassView). v.caller) t.pass_is in
      let locked = laid-held m (may_clear (file_at m file).mode by) file by from to (replicate (to - from) 0) a b came (With to (λ acts. (lock_acts acts ≡ []) × Found p1.caller came w.found acts)) (With to (Found p.caller came w.found)) p p1 p2 q h t first is w.cleared w.cleared.also.0.0 l of last (λ more own sizes. (
        subst (CutsAt (size_at m file) p.caller (file_end m file) by from (came.at - from) came.fault w.found) (sym sizes)
            (subst (λ n. CutsAt (size_at m file) n (file_end m file) by from (came.at - from) came.fault w.found (size_acts w.cleared.acts)) caller w.cleared.also.0.1),
        subst (All (IsOfClearing m.geometry.block_size from to)) (sym own) w.cleared.also.1,
      )) in
      record {
        found = w.found;
        cleared = laid-other m (may_clear (file_at m file).mode by) file by from to (replicate (to - from) 0) a b came (λ acts. HeldExclusive file acts × With to (Found p.caller came w.found) acts) (With to (λ acts. HeldExclusive file acts × Found p.caller came w.found acts)) p q locked
            ((locked.also.0, locked.also.1.0), locked.also.1.1);
        fault = w.fault;
        stops = w.stops;
      }

-- a pass goes on after a turn at the size
pub sized-at : (m : MountView) (file : FileId) (by : Tag) (p q : PassView) (e : SizeEvent) → TurnedAtSize m file e p q → IsPassOf m q → GoesAt m file by p → GoesAt m file by q
sized-at m file by p q e t of goes = record {
  of = of;
  caller = goes.caller ∙ sym (ap (λ (v : PassView). v.caller) t.did.pass_is);
  exists = goes.exists;
  shares = subst (λ (v : PassView). HasShares m file 2 v) (sym t.did.pass_is) goes.shares;
}
