use Rattle.std.proofs.Common.{◌≡◌, ℕ, ◌-◌, List, ◌++◌, length, None, Some, refl, sym, ◌∙◌, ap, subst, arith}
use Rattle.iob_base.specs.declared.stamp.Stamp.{Stamp}
use Rattle.turn_cell.specs.Seats.{seat_claims, seat_view}
use Rattle.range_core.specs.DaxZeros.{CanZeroDax, after_dax_zero, zeroed_through}
use Rattle.range_core.specs.Kinds.{is_mapped}
use Rattle.range_core.specs.OnRun.{on_each}
use Rattle.range_core.specs.RangeView.{LiesAt, RangeView, range_view}
use Rattle.range_core.specs.Refusals.{stale}
use Rattle.range_core.specs.Spots.{blocks_met}
use Rattle.range_core.specs.Stamps.{done_by, stamps_from}
use Rattle.range_core.specs.contracts.range.Range.zero_through.F-FnMut.{words}
use Rattle.range_core.specs.declared.cell.Cell.{Cell}
use Rattle.range_core.specs.declared.parts.ByteRun.{ByteRun}
use Rattle.range_core.proofs.DaxZeroLemmas.{zeroed_sound}
use Rattle.range_core.proofs.JudgeLemmas.{fails, passes, refuses, starves}
use Rattle.range_core.proofs.OnRunLemmas.{length-on_each}
use Rattle.range_core.proofs.SoundLemmas.{room_for_returns}
use Rattle.range_core.proofs.range.Range.zero_through.Goals as goal

pub invariant_of-self-2 : goal.invariant_of-self-2
invariant_of-self-2 g c =
    let r = c.self.inside in
    let run : ByteRun = c.byte_run-run.result in
    let view : RangeView = range_view r.geometry r.mode r.first r.cells.items r.log.items r.cookie r.errors r.tickets (seat_view r.seat) (seat_claims r.seat).facts in
    let C : RangeView → Type 0 = λ v. CanZeroDax v c.args.seen c.args.from c.args.to in
    let can : C view = subst C (sym c.self.view_is) c.requires.can in
    let L : ByteRun → Type 0 = λ b. LiesAt view b.first b.blocks in
    let lies : L run = subst L (sym c.byte_run-run.ensures.run) can.bytes.lies in
    let size : run.size ≡ r.geometry.block_size = ap (λ (b : ByteRun). b.size) c.byte_run-run.ensures.run in
    let log : c.add.new.self.items ≡ r.log.items ++ stamps_from run.first run.blocks c.stamp_done.result = c.add.ensures.items ∙ ap (λ l. l ++ stamps_from run.first run.blocks c.stamp_done.result) c.reserve.ensures.items in (
      zeroed_sound view run c.clear_through.new.cells.items c.add.new.self.items c.stamp_done.result c.byte_run-run.ensures.met size lies c.self.invariant.0 c.clear_through.ensures log,
      room_for_returns _ _ _ _ c.clear_through.new.cells.items (ap length c.clear_through.ensures ∙ length-on_each (zeroed_through run) 0 (run.first - r.first) run.blocks r.cells.items) c.add.ensures.few (omega (arith, c.in-Ok.ensures.ok, c.add.ensures.kept, c.len.ensures, r.cells.ok.0)),
    )

pub returns-in-Some-clause-answers : goal.returns-in-Some-clause-answers
returns-in-Some-clause-answers g c =
    let V : RangeView → Type 0 = λ v. stale v c.args.seen ≡ Some c.in-Some.fault in
    record {
      made = tt;
      state = tt;
      judged = record { answer = None; is_asked = refl };
      passed = tt;
      refused = refuses (stale c.args.self.now c.args.seen) _ _ (subst V c.self.view_is (sym c.stale_stop.ensures.refusal ∙ c.in-Some.is));
      unchanged = refl;
    }

pub returns-in_default-reserve-clause-answers : goal.returns-in_default-reserve-clause-answers
returns-in_default-reserve-clause-answers g c =
    let r = c.self.inside in
    let V : RangeView → Type 0 = λ v. stale v c.args.seen ≡ None in
    let at : List (ℕ × Stamp) → RangeView = λ l. range_view r.geometry r.mode r.first r.cells.items l r.cookie r.errors r.tickets (seat_view r.seat) (seat_claims r.seat).facts in
    record {
      made = tt;
      state = tt;
      judged = record { answer = None; is_asked = refl };
      passed = tt;
      refused = starves (stale c.args.self.now c.args.seen) _ (subst V c.self.view_is (sym c.stale_stop.ensures.refusal ∙ c.in_default.is));
      unchanged = ap at c.reserve.ensures.items ∙ c.self.view_is;
    }

pub returns-in-Err-clause-answers : goal.returns-in-Err-clause-answers
returns-in-Err-clause-answers g c =
    let r = c.self.inside in
    let V : RangeView → Type 0 = λ v. stale v c.args.seen ≡ None in
    let none : stale c.args.self.now c.args.seen ≡ None = subst V c.self.view_is (sym c.stale_stop.ensures.refusal ∙ c.in_default.is) in
    let at : List (ℕ × Stamp) → RangeView = λ l. range_view r.geometry r.mode r.first r.cells.items l r.cookie r.errors r.tickets (seat_view r.seat) (seat_claims r.seat).facts in
    let many : c.byte_run-run.result.blocks ≡ blocks_met c.args.self.now.geometry.block_size c.args.from c.args.to = ap (λ (b : ByteRun). b.blocks) c.byte_run-run.ensures.run ∙ ap (λ (v : RangeView). blocks_met v.geometry.block_size c.args.from c.args.to) c.self.view_is in
    let told = fails (words g.row.F g.F.FnMut).step _ _ c.args.judge.now c.ask.new.judge _ (is_mapped c.args.seen.extent.kind) (stale c.args.self.now c.args.seen) c.in-Err.done many c.is_mapped_kind.ensures none c.in-Err.ensures in
    record {
      made = tt;
      state = tt;
      judged = told.0;
      passed = tt;
      refused = told.1;
      unchanged = ap at c.reserve.ensures.items ∙ c.self.view_is;
    }

pub returns-clause-answers : goal.returns-clause-answers
returns-clause-answers g c =
    let r = c.self.inside in
    let was : List Cell = r.cells.items in
    let V : RangeView → Type 0 = λ v. stale v c.args.seen ≡ None in
    let at : List Cell × List (ℕ × Stamp) → RangeView = λ p. range_view r.geometry r.mode r.first p.0 p.1 r.cookie r.errors r.tickets (seat_view r.seat) (seat_claims r.seat).facts in
    let run_is = c.byte_run-run.ensures.run in
    let many : c.byte_run-run.result.blocks ≡ blocks_met c.args.self.now.geometry.block_size c.args.from c.args.to = ap (λ (b : ByteRun). b.blocks) run_is ∙ ap (λ (v : RangeView). blocks_met v.geometry.block_size c.args.from c.args.to) c.self.view_is in
    let told = passes (words g.row.F g.F.FnMut).step _ _ c.args.judge.now c.ask.new.judge _ (is_mapped c.args.seen.extent.kind) tt many c.is_mapped_kind.ensures c.in_default-ask.ensures in
    let S : RangeView → Type 0 = λ v. at (c.clear_through.new.cells.items, c.add.new.self.items) ≡ after_dax_zero v c.args.by c.args.from c.args.to in
    let cells = c.clear_through.ensures ∙ ap (λ (b : ByteRun). on_each (zeroed_through b) 0 (b.first - r.first) b.blocks was) run_is in
    let log = c.add.ensures.items ∙ ap (λ (st : Stamp). c.reserve.new.self.items ++ stamps_from c.byte_run-run.result.first c.byte_run-run.result.blocks st) c.stamp_done.ensures
    ∙ ap (λ l. l ++ stamps_from c.byte_run-run.result.first c.byte_run-run.result.blocks (done_by c.args.by)) c.reserve.ensures.items ∙ ap (λ (b : ByteRun). r.log.items ++ stamps_from b.first b.blocks (done_by c.args.by)) run_is in
    record {
      made = subst V c.self.view_is (sym c.stale_stop.ensures.refusal ∙ c.in_default.is);
      state = subst S c.self.view_is (λ i. at (cells i, log i));
      judged = told.0;
      passed = told.1;
      refused = tt;
      unchanged = tt;
    }
