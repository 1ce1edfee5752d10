use Rattle.std.proofs.Common.{◌≡◌, ℕ, ◌-◌, ◌++◌, length, List, All, sym, ◌∙◌, ap, subst, arith}
use Rattle.iob_base.specs.declared.stamp.Stamp.{Stamp}
use Rattle.turn_cell.specs.Seats.{seat_claims, seat_view}
use Rattle.range_core.specs.ByteRuns.{IsRunIn, after_bytes}
use Rattle.range_core.specs.OnRun.{on_each}
use Rattle.range_core.specs.Paging.{HaveWholePages, HasWholePage}
use Rattle.range_core.specs.RangeView.{RangeView, range_view}
use Rattle.range_core.specs.Stamps.{done_by, stamps_from}
use Rattle.range_core.specs.Stores.{next_bytes, stored}
use Rattle.range_core.specs.declared.cell.Cell.{Cell}
use Rattle.range_core.proofs.KeptPlaces.{kept_sound}
use Rattle.range_core.proofs.OnRunLemmas.{length-on_each}
use Rattle.range_core.proofs.SoundLemmas.{room_for_returns}
use Rattle.range_core.proofs.StoreLemmas.{stored_keeps}
use Rattle.range_core.proofs.range.Range.store_blocks.Goals as goal

pub store_run-requires-clause-high : goal.store_run-requires-clause-high
store_run-requires-clause-high c =
    let V : RangeView → Type 0 = λ v. IsRunIn v c.args.run in
    let here = subst V (sym c.self.view_is) c.requires.run in
    omega (arith, here.lies.high, c.self.inside.cells.ok.0)

pub store_run-requires-clause-pages : goal.store_run-requires-clause-pages
store_run-requires-clause-pages c =
    let r = c.self.inside in
    let V : RangeView → Type 0 = λ v. IsRunIn v c.args.run in
    let here = subst V (sym c.self.view_is) c.requires.run in
    let whole = subst HaveWholePages (sym c.self.view_is) c.requires.pages in
    let S : ℕ → Type 0 = λ n. All (HasWholePage n) r.cells.items in
    subst S (sym (ap (λ x. x.size) here.is)) whole

-- the stamps that the log has in the end
log_is : (c : goal.After-drop-stock) → c.add.new.self.items ≡ c.self.inside.log.items ++ stamps_from c.args.run.first c.args.run.blocks (done_by c.args.by)
log_is c =
    c.add.ensures.items ∙ ap (λ (st : Stamp). c.reserve.new.self.items ++ stamps_from c.args.run.first c.args.run.blocks st) c.stamp_done.ensures
    ∙ ap (λ l. l ++ stamps_from c.args.run.first c.args.run.blocks (done_by c.args.by)) c.reserve.ensures.items

-- the blocks in the end
cells_are : (c : goal.After-drop-stock) → c.store_run.new.cells.items ≡ on_each (stored c.args.run (next_bytes c.args.iov.now (c.args.run.to - c.args.run.from))) 0 (c.args.run.first - c.self.inside.first) c.args.run.blocks c.self.inside.cells.items
cells_are c = c.store_run.ensures.cells

pub invariant_of-self-2 : goal.invariant_of-self-2
invariant_of-self-2 c =
    let r = c.self.inside in
    let run = c.args.run in
    let bytes : List ℕ = next_bytes c.args.iov.now (run.to - run.from) in
    let low : ℕ = run.first - r.first in
    let was : RangeView = range_view r.geometry r.mode r.first r.cells.items r.log.items r.cookie r.errors r.tickets (seat_view r.seat) (seat_claims r.seat).facts in
    let V : RangeView → Type 0 = λ v. IsRunIn v run in
    let here : IsRunIn was run = subst V (sym c.self.view_is) c.requires.run in (
      kept_sound (stored run bytes) (stored_keeps run bytes) was run.first run.blocks low (done_by c.args.by) c.store_run.new.cells.items c.add.new.self.items r.cookie r.errors r.tickets (seat_view r.seat) c.self.invariant.0 here.lies.low here.lies.high (cells_are c) (log_is c),
      room_for_returns _ _ _ _ c.store_run.new.cells.items (ap length (cells_are c) ∙ length-on_each (stored run bytes) 0 low run.blocks r.cells.items) c.add.ensures.few (omega (arith, c.in-Ok.ensures.ok, c.add.ensures.kept, c.len.ensures, r.cells.ok.0)),
    )

pub returns-clause-state : goal.returns-clause-state
returns-clause-state c =
    let r = c.self.inside in
    let cells = cells_are c in
    let log = log_is c in
    let view : List Cell × List (ℕ × Stamp) → RangeView = λ p. range_view r.geometry r.mode r.first p.0 p.1 r.cookie r.errors r.tickets (seat_view r.seat) (seat_claims r.seat).facts in
    (λ i. view (cells i, log i)) ∙ ap (λ v. after_bytes (stored c.args.run (next_bytes c.args.iov.now (c.args.run.to - c.args.run.from))) v c.args.by c.args.run) c.self.view_is
