use Rattle.std.proofs.Common.{◌≡◌, ℕ, ◌+◌, ◌-◌, ◌≤◌, ◌++◌, List, length, All, sym, ◌∙◌, ap, subst, arith}
use Rattle.turn_cell.specs.Seats.{seat_claims, seat_view}
use Rattle.iob_base.specs.declared.stamp.Stamp.{Stamp}
use Rattle.range_core.specs.ByteRuns.{after_bytes}
use Rattle.range_core.specs.Paging.{HavePages, fill_each, HasWholePage, lacks_page}
use Rattle.range_core.specs.RangeView.{RangeView, range_view}
use Rattle.range_core.specs.Stamps.{done_by, stamps_from}
use Rattle.range_core.specs.declared.cell.Cell.{Cell}
use Rattle.range_core.proofs.KeptPlaces.{kept_sound}
use Rattle.range_core.proofs.OnRunLemmas.{length-on_each}
use Rattle.range_core.proofs.PagingLemmas.{filled_keeps, filled_pages}
use Rattle.range_core.proofs.SoundLemmas.{room_for_returns}
use Rattle.range_core.proofs.range.Range.fetch_run.Goals as goal

pub copy_run-requires-clause-high : goal.copy_run-requires-clause-high
copy_run-requires-clause-high c =
    let low : ℕ = c.args.run.first - c.self.inside.first in
    let many : length c.give_pages.new.cells.items ≡ length c.self.inside.cells.items = ap length c.in-Ok-give_pages.ensures.filled ∙ length-on_each (fill_each c.args.run) 0 low c.args.run.blocks c.self.inside.cells.items in
    let high : c.args.run.first + c.args.run.blocks ≤ c.self.inside.first + length c.self.inside.cells.items =
    (let V : RangeView → Type 0 = λ r. c.args.run.first + c.args.run.blocks ≤ r.first + length r.cells in subst V (sym c.self.view_is) c.requires.run.lies.high) in
    omega (arith, many, high, c.give_pages.new.cells.ok.0)

pub copy_run-requires-clause-pages : goal.copy_run-requires-clause-pages
copy_run-requires-clause-pages c =
    let r = c.self.inside in
    let P : List Cell → Type 0 = λ xs. HavePages c.args.run r.first xs in
    let W : RangeView → Type 0 = λ v. All (HasWholePage v.geometry.block_size) v.cells in
    let size : r.geometry.block_size ≡ c.args.run.size = ap (λ v. v.geometry.block_size) c.self.view_is ∙ sym (ap (λ x. x.size) c.requires.run.is) in
    let S : ℕ → Type 0 = λ n. All (HasWholePage n) r.cells.items in
    subst P (sym c.in-Ok-give_pages.ensures.filled) (filled_pages c.args.run (c.args.run.first - r.first) r.cells.items (subst S size (subst W (sym c.self.view_is) c.requires.pages)))

-- the stamps that the log has in the end
log_is : (c : goal.After-add) → c.add.new.self.items ≡ c.self.inside.log.items ++ stamps_from c.args.run.first c.args.run.blocks (done_by c.args.by)
log_is c =
    c.add.ensures.items ∙ ap (λ (st : Stamp). c.reserve.new.self.items ++ stamps_from c.args.run.first c.args.run.blocks st) c.stamp_done.ensures
    ∙ ap (λ l. l ++ stamps_from c.args.run.first c.args.run.blocks (done_by c.args.by)) c.reserve.ensures.items

pub invariant_of-self-2 : goal.invariant_of-self-2
invariant_of-self-2 c =
    let r = c.self.inside in
    let low : ℕ = c.args.run.first - r.first in
    let n : ℕ = c.args.run.blocks in
    let was : RangeView = range_view r.geometry r.mode r.first r.cells.items r.log.items r.cookie r.errors r.tickets (seat_view r.seat) (seat_claims r.seat).facts in
    let is : was ≡ c.args.self.now = c.self.view_is in
    let first : r.first ≤ c.args.run.first = (let V : RangeView → Type 0 = λ v. v.first ≤ c.args.run.first in subst V (sym is) c.requires.run.lies.low) in
    let last : c.args.run.first + n ≤ r.first + length r.cells.items = (let V : RangeView → Type 0 = λ v. c.args.run.first + n ≤ v.first + length v.cells in subst V (sym is) c.requires.run.lies.high) in (
      kept_sound (fill_each c.args.run) (filled_keeps lacks_page c.args.run.size) was c.args.run.first n low (done_by c.args.by) c.give_pages.new.cells.items c.add.new.self.items r.cookie r.errors r.tickets (seat_view r.seat) c.self.invariant.0 first last c.in-Ok-give_pages.ensures.filled (log_is c),
      room_for_returns _ _ _ _ c.give_pages.new.cells.items (ap length c.in-Ok-give_pages.ensures.filled ∙ length-on_each (fill_each c.args.run) 0 low n r.cells.items) c.add.ensures.few (omega (arith, c.in-Ok.ensures.ok, c.add.ensures.kept, c.len.ensures, r.cells.ok.0)),
    )

pub returns-clause-state : goal.returns-clause-state
returns-clause-state c =
    let r = c.self.inside in
    let cells = c.in-Ok-give_pages.ensures.filled in
    let log = log_is c in
    let view : List Cell × List (ℕ × Stamp) → RangeView = λ p. range_view r.geometry r.mode r.first p.0 p.1 r.cookie r.errors r.tickets (seat_view r.seat) (seat_claims r.seat).facts in
    (λ i. view (cells i, log i)) ∙ ap (λ v. after_bytes (fill_each c.args.run) v c.args.by c.args.run) c.self.view_is
