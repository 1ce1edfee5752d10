-- What a flush tells, and how it leaves the pass of its call.
use Rattle.std.proofs.Common.{◌≡◌, ℕ, Bool, true, false, List, [], ◌∷◌, Some, None, refl, sym, ap, ◌∙◌, subst, arith, if◌then◌else◌}
use Rattle.std.specs.Prelude.{IfSome, Option}
use Rattle.std.proofs.lemmas.Option.{none-some}
use Rattle.iob_base.specs.declared.answer.Fault.{Fault}
use Rattle.iob_base.specs.declared.stamp.FileId.{FileId}
use Rattle.fault_device.specs.LaneView.{LaneView}
use Rattle.fault_device.specs.declared.lane.Done.{Done}
use Rattle.range_core.specs.declared.entry.Entry.{Entry}
use Rattle.range_core.specs.declared.entry.Event.{Event}
use Rattle.range_core.specs.declared.entry.Event.TheVariants as event
use Rattle.range_core.specs.declared.entry.Outcome.{Outcome}
use Rattle.range_core.specs.declared.entry.Outcome.TheVariants as outcome
use Rattle.mount_parts.specs.MountView.{MountView}
use Rattle.mini_fs.specs.Acts.{own_entries}
use Rattle.mini_fs.specs.PassView.{PassView}
use Rattle.mini_fs.proofs.CallEnds.{acted-caller, acted-locks, acted-shares, acted-spare}
use Rattle.call_parts.specs.Causes.{HasFailed, HasOne, IsCaused}
use Rattle.call_parts.specs.Steps.{done_of, dones_in}
use Rattle.call_parts.proofs.StepLemmas.{one-left, one-right}
use Rattle.writeback_ioend.specs.Flushes.{Flushes, LeavesCall, flush_fault}
use Rattle.writeback_ioend.specs.WriteRuns.{WritesRun, end_in}
use Rattle.writeback_ioend.specs.Writebacks.{failed_of, first_failed, or_else}
use Rattle.writeback_ioend.specs.declared.flushing.Flushed.{Flushed}
use Rattle.writeback_ioend.specs.declared.walk.Written.{Written}
use Rattle.writeback_ioend.proofs.WriteOuts.{out-plain}

-- the transfer did this, and failed
abbrev IsFailure : Done → Done → Type 0
IsFailure done d = HasFailed done.lane done.before done.after d

abbrev done_or : Done → Option Done → Done
done_or d None = d
done_or d (Some done) = done

failed-so : (d done : Done) (failed : Bool) → d.failed ≡ failed → (if failed then Some d else None) ≡ Some done → IsFailure done d
failed-so d done true is same = record {
  failed = is;
  lane_is = ap (λ o. (done_or d o).lane) same;
  before_is = ap (λ o. (done_or d o).before) same;
  after_is = ap (λ o. (done_or d o).after) same;
}
failed-so d done false is same = absurd (none-some done same)

-- an entry that tells of a failed transfer has it
failed-done : (e : Event) (o : Outcome) (done : Done) → failed_of e o ≡ Some done → HasOne (IsFailure done) (done_of e o)
failed-done (event.WrittenBack ticket block kind blocks d) (outcome.Counted n) done is = (0, d, refl, failed-so d done d.failed refl is)
failed-done e o done is = absurd (none-some done is)

first-at : (e : Entry) (entries : List Entry) (done : Done) (o : Option Done) → failed_of e.event e.outcome ≡ o → (first_failed entries ≡ Some done → HasOne (IsFailure done) (dones_in entries)) → or_else o (first_failed entries) ≡ Some done → HasOne (IsFailure done) (dones_in (e ∷ entries))
first-at e entries done None none rest is = one-right (IsFailure done) (done_of e.event e.outcome) (dones_in entries) (rest is)
first-at e entries done (Some d) some rest is = one-left (IsFailure done) (done_of e.event e.outcome) (dones_in entries) (failed-done e.event e.outcome done (some ∙ is))

first-done : (entries : List Entry) (done : Done) → first_failed entries ≡ Some done → HasOne (IsFailure done) (dones_in entries)
first-done [] done is = absurd (none-some done is)
first-done (e ∷ entries) done is = first-at e entries done (failed_of e.event e.outcome) refl (first-done entries done) is

-- the fault of a flush rests on its entries
flush-caused : (m : MountView) (entries : List Entry) (failed : Option Done) (stopped : Option Fault) → failed ≡ first_failed entries → IfSome stopped (IsCaused m entries) → IfSome (flush_fault failed stopped) (IsCaused m entries)
flush-caused m entries None stopped is cause = cause
flush-caused m entries (Some done) stopped is cause = first-done entries done (sym is)

module _ (m : MountView) (file : FileId) (from n : ℕ) (a b : LaneView) (p q : PassView) (written : Written) (run : WritesRun m file true from n a b p q written) where
  pub run-flushes : (flushed : Flushed) → flushed.fault ≡ flush_fault written.failed written.fault → flushed.bios ≡ written.bios → Flushes m file from n a b p q flushed
  run-flushes flushed is sent =
      let w = run.back in
      let wrote = w.blocks in
      let lent = w.bios in
      let few = w.few_bios in
      let enough = w.enough_bios in
      let turns = w.turns in
      record {
        acts = w.acts;
        stopped = written.fault;
        out = out-plain m file true from (end_in m file from n) a b p q w.acts written.fault w.steps w.ascending w.sought (omega (arith, lent, few)) (omega (arith, lent, wrote, enough)) w.returned w.met w.stops w.cause;
        none = run.none;
        fault = is ∙ ap (λ o. flush_fault o written.fault) w.failed;
        cause = subst (λ f. IfSome f (IsCaused m (own_entries w.acts))) (sym is) (flush-caused m (own_entries w.acts) written.failed written.fault w.failed w.cause);
        bios = sent ∙ w.bios;
        turns = omega (arith, sent, turns);
      }

  pub run-leaves : LeavesCall m p q
  run-leaves =
      let w = run.back in
      let did = w.steps.did in
      record {
        of = w.steps.of;
        last = w.steps.last;
        caller = acted-caller w.acts p q did.acted;
        spare = acted-spare w.acts p q did.acted;
        shares = acted-shares w.acts p q did.acted did.closed;
        locks = acted-locks w.acts p q did.acted w.steps.locks;
        begun = w.begun;
        tickets = w.steps.tickets;
      }
