use Rattle.std.proofs.Common.{◌≡◌, ℕ, ◌≤◌, List, ◌++◌, None, Some, All, length, refl, sym, ◌∙◌, ap, subst, arith}
use Rattle.std.proofs.lemmas.List.{take-replicate}
use Rattle.turn_cell.specs.Seats.{seat_claims, seat_view}
use Rattle.turn_cell.specs.Stakes.{total}
use Rattle.io_model.specs.Contents.{zeros}
use Rattle.iob_base.specs.declared.stamp.Stamp.{Stamp}
use Rattle.iov_iter.specs.IovView.{IovView, written_on}
use Rattle.range_core.specs.BlockTruth.{is_gone}
use Rattle.range_core.specs.ByteRuns.{run_bytes}
use Rattle.range_core.specs.Cells.{IsPlaced}
use Rattle.range_core.specs.DaxGets.{CanGetDax, after_dax_get, stored_at, stored_run}
use Rattle.range_core.specs.Kinds.{is_mapped}
use Rattle.range_core.specs.RangeView.{RangeView, range_view}
use Rattle.range_core.specs.Refusals.{stale}
use Rattle.range_core.specs.Spots.{blocks_met}
use Rattle.range_core.specs.Stamps.{done_by, stamps_from}
use Rattle.range_core.specs.contracts.range.Range.get_through.F-FnMut.{words}
use Rattle.range_core.specs.declared.parts.ByteRun.{ByteRun}
use Rattle.range_core.proofs.DaxGetLemmas.{home_in, run_lies, size-most}
use Rattle.range_core.proofs.JudgeLemmas.{fails, passes, refuses, starves}
use Rattle.range_core.proofs.SoundLemmas.{gone-within}
use Rattle.range_core.proofs.StampedTruth.{stamped_sound}
use Rattle.range_core.proofs.range.Range.get_through.Goals as goal

pub copy_through-requires-clause-blank : goal.copy_through-requires-clause-blank
copy_through-requires-clause-blank g c =
    let size : c.block_size-size.result ≡ c.self.inside.geometry.block_size = c.block_size-size.ensures.value in
    take-replicate c.block_size-size.result 4096 0 (size-most c.block_size-size.result c.block_size-size.ensures.valid) ∙ ap zeros (size ∙ sym (ap (λ r. r.size) c.byte_run-run.ensures.run))

pub invariant_of-self-2 : goal.invariant_of-self-2
invariant_of-self-2 g c =
    let r = c.self.inside in
    let run : ByteRun = c.byte_run-run.result in
    let view : RangeView = range_view r.geometry r.mode r.first r.cells.items r.log.items r.cookie r.errors r.tickets (seat_view r.seat) (seat_claims r.seat).facts in
    let C : RangeView → Type 0 = λ v. CanGetDax v c.args.seen c.args.from c.args.to c.args.iov.now in
    let can : C view = subst C (sym c.self.view_is) c.requires.can in
    let few : total is_gone r.cells.items ≤ length r.cells.items = gone-within r.cells.items in
    let room = c.in-Ok.ensures.ok in
    let lies = run_lies view _ _ _ run c.byte_run-run.ensures.run can.bytes.lies in (
      stamped_sound view _ _ _ _ _ c.self.invariant.0 lies c.reserve.ensures.items c.add.ensures.items,
      omega (arith, c.add.ensures.few, c.add.ensures.kept, c.len.ensures, r.cells.ok.0),
    )

pub returns-in-Some : goal.returns-in-Some
returns-in-Some g c =
    let V : RangeView → Type 0 = λ v. stale v c.args.seen ≡ Some c.in-Some.fault in
    record {
      made = tt;
      state = tt;
      bytes = tt;
      judged = record { answer = None; is_asked = refl };
      passed = tt;
      refused = refuses (stale c.args.self.now c.args.seen) _ _ (subst V c.self.view_is (sym c.stale_stop.ensures.refusal ∙ c.in-Some.is));
      unchanged = refl;
      nothing = refl;
    }

pub returns-in_default-reserve : goal.returns-in_default-reserve
returns-in_default-reserve g c =
    let r = c.self.inside in
    let V : RangeView → Type 0 = λ v. stale v c.args.seen ≡ None in
    let at : List (ℕ × Stamp) → RangeView = λ l. range_view r.geometry r.mode r.first r.cells.items l r.cookie r.errors r.tickets (seat_view r.seat) (seat_claims r.seat).facts in
    record {
      made = tt;
      state = tt;
      bytes = tt;
      judged = record { answer = None; is_asked = refl };
      passed = tt;
      refused = starves (stale c.args.self.now c.args.seen) _ (subst V c.self.view_is (sym c.stale_stop.ensures.refusal ∙ c.in_default.is));
      unchanged = ap at c.reserve.ensures.items ∙ c.self.view_is;
      nothing = refl;
    }

pub returns-in-Err : goal.returns-in-Err
returns-in-Err g c =
    let r = c.self.inside in
    let V : RangeView → Type 0 = λ v. stale v c.args.seen ≡ None in
    let none : stale c.args.self.now c.args.seen ≡ None = subst V c.self.view_is (sym c.stale_stop.ensures.refusal ∙ c.in_default.is) in
    let at : List (ℕ × Stamp) → RangeView = λ l. range_view r.geometry r.mode r.first r.cells.items l r.cookie r.errors r.tickets (seat_view r.seat) (seat_claims r.seat).facts in
    let many : c.byte_run-run.result.blocks ≡ blocks_met c.args.self.now.geometry.block_size c.args.from c.args.to = ap (λ (b : ByteRun). b.blocks) c.byte_run-run.ensures.run ∙ ap (λ (v : RangeView). blocks_met v.geometry.block_size c.args.from c.args.to) c.self.view_is in
    let told = fails (words g.row.F g.F.FnMut).step _ _ c.args.judge.now c.ask.new.judge _ (is_mapped c.args.seen.extent.kind) (stale c.args.self.now c.args.seen) c.in-Err.done many c.is_mapped_kind.ensures none c.in-Err.ensures in
    record {
      made = tt;
      state = tt;
      bytes = tt;
      judged = told.0;
      passed = tt;
      refused = told.1;
      unchanged = ap at c.reserve.ensures.items ∙ c.self.view_is;
      nothing = refl;
    }

pub copy_through-requires-clause-ready : goal.copy_through-requires-clause-ready
copy_through-requires-clause-ready g c =
    let r = c.self.inside in
    let run : ByteRun = c.byte_run-run.result in
    let view : RangeView = range_view r.geometry r.mode r.first r.cells.items r.log.items r.cookie r.errors r.tickets (seat_view r.seat) (seat_claims r.seat).facts in
    let C : RangeView → Type 0 = λ v. CanGetDax v c.args.seen c.args.from c.args.to c.args.iov.now in
    let can : C view = subst C (sym c.self.view_is) c.requires.can in
    let size : run.size ≡ r.geometry.block_size = ap (λ (b : ByteRun). b.size) c.byte_run-run.ensures.run in
    let P : ℕ → Type 0 = λ m. All (IsPlaced m) r.cells.items in
    home_in run r.first r.cells.items (subst P (sym size) c.self.invariant.0.places) can.uncached

pub returns : goal.returns
returns g c =
    let r = c.self.inside in
    let iov : IovView = c.args.iov.now in
    let V : RangeView → Type 0 = λ v. stale v c.args.seen ≡ None in
    let at : List (ℕ × Stamp) → RangeView = λ l. range_view r.geometry r.mode r.first r.cells.items l r.cookie r.errors r.tickets (seat_view r.seat) (seat_claims r.seat).facts in
    let many : c.byte_run-run.result.blocks ≡ blocks_met c.args.self.now.geometry.block_size c.args.from c.args.to = ap (λ (b : ByteRun). b.blocks) c.byte_run-run.ensures.run ∙ ap (λ (v : RangeView). blocks_met v.geometry.block_size c.args.from c.args.to) c.self.view_is in
    let told = passes (words g.row.F g.F.FnMut).step _ _ c.args.judge.now c.ask.new.judge _ (is_mapped c.args.seen.extent.kind) tt many c.is_mapped_kind.ensures c.in_default-ask.ensures in
    let S : RangeView → Type 0 = λ v. at c.add.new.self.items ≡ after_dax_get v c.args.by c.args.from c.args.to in
    let B : RangeView → Type 0 = λ v. c.copy_through.new.iov ≡ written_on (stored_run v c.args.from c.args.to) iov in
    let log = c.add.ensures.items ∙ ap (λ (st : Stamp). c.reserve.new.self.items ++ stamps_from c.byte_run-run.result.first c.byte_run-run.result.blocks st) c.stamp_done.ensures
    ∙ ap (λ l. l ++ stamps_from c.byte_run-run.result.first c.byte_run-run.result.blocks (done_by c.args.by)) c.reserve.ensures.items ∙ ap (λ (b : ByteRun). r.log.items ++ stamps_from b.first b.blocks (done_by c.args.by)) c.byte_run-run.ensures.run in
    record {
      made = subst V c.self.view_is (sym c.stale_stop.ensures.refusal ∙ c.in_default.is);
      state = subst S c.self.view_is (ap at log);
      bytes = subst B c.self.view_is (c.copy_through.ensures ∙ ap (λ (b : ByteRun). written_on (run_bytes b (stored_at b.size r.first r.cells.items)) iov) c.byte_run-run.ensures.run);
      judged = told.0;
      passed = told.1;
      refused = tt;
      unchanged = tt;
      nothing = tt;
    }
