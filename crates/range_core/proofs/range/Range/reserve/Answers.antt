use Rattle.std.proofs.Common.{◌≡◌, ℕ, ◌+◌, ◌-◌, true, List, All, sym, ◌∙◌, ap, subst, arith, refl}
use Rattle.turn_cell.specs.Seats.{seat_claims, seat_view}
use Rattle.turn_cell.specs.Stakes.{total}
use Rattle.space_pool.specs.Claims.{Fits}
use Rattle.range_core.specs.BlockTruth.{is_gone}
use Rattle.range_core.specs.Cells.{IsPlaced}
use Rattle.range_core.specs.OnRun.{on_each}
use Rattle.range_core.specs.RangeView.{IsSound, RangeView, range_view}
use Rattle.range_core.specs.Refusals.{stale, worn}
use Rattle.range_core.specs.Reserves.{promised_cell}
use Rattle.range_core.specs.Space.{ClaimsSpace, SpaceClaims}
use Rattle.range_core.specs.declared.cell.Cell.{Cell}
use Rattle.range_core.proofs.OnRunLemmas.{length-on_each, total-on_each}
use Rattle.range_core.proofs.PoolLemmas.{some_reserved}
use Rattle.range_core.proofs.ReserveLemmas.{AreHoles, fits_holes, holes_counted, promised_placed, sampled_holes, space_promised}
use Rattle.range_core.proofs.SoundLemmas.{sound_unlogged}
use Rattle.range_core.proofs.StopLemmas.{neither}
use Rattle.range_core.proofs.range.Range.reserve.Goals as goal

abbrev changed : ℕ → Cell → Cell
changed _ c = promised_cell c

pub reserve_some-requires-clause-fits : goal.reserve_some-requires-clause-fits
reserve_some-requires-clause-fits g c =
    let r = c.self.inside in
    let low : ℕ = c.args.seen.extent.block - r.first in
    let calm = neither (stale c.args.self.now c.args.seen) (worn c.args.self.now true) (sym c.in_default.ensures) in
    let H : RangeView → Type 0 = λ v. AreHoles v.cells (c.args.seen.extent.block - v.first) c.args.blocks in
    let holes = subst H (sym c.self.view_is) (sampled_holes c.args.self.now c.args.seen c.args.blocks c.args.blocks c.requires.holes c.requires.known calm.0 (omega arith)) in
    let F : ℕ → Type 0 = λ n. Fits (seat_claims r.seat).facts n in
    subst F (holes_counted low c.args.blocks r.cells.items holes) (fits_holes r.geometry.block_size low c.args.blocks r.cells.items (seat_claims r.seat).facts c.self.invariant.0.space)

pub invariant_of-self-2 : goal.invariant_of-self-2
invariant_of-self-2 g c =
    let r = c.self.inside in
    let size : ℕ = r.geometry.block_size in
    let low : ℕ = c.args.seen.extent.block - r.first in
    let m : ℕ = c.in-Ok.found in
    let was : List Cell = r.cells.items in
    let now : List Cell = on_each changed 0 low m was in
    let sound = c.self.invariant.0 in
    let calm = neither (stale c.args.self.now c.args.seen) (worn c.args.self.now true) (sym c.in_default.ensures) in
    let few = (some_reserved _ c.args.blocks m c.requires.holes.inside.some c.in-Ok.ensures.turned.done.0.found).1 in
    let H : RangeView → Type 0 = λ v. AreHoles v.cells (c.args.seen.extent.block - v.first) m in
    let holes = subst H (sym c.self.view_is) (sampled_holes c.args.self.now c.args.seen c.args.blocks m c.requires.holes c.requires.known calm.0 few) in
    let C : SpaceClaims → Type 0 = λ s. ClaimsSpace size now s in
    let space = subst C (sym c.in-Ok.ensures.claims) (space_promised size low m was (seat_claims r.seat).facts holes sound.space) in
    let places : All (IsPlaced size) now = promised_placed size low m was holes sound.places in
    let S : List Cell → Type 0 = λ cells. IsSound (range_view r.geometry r.mode r.first cells r.log.items (r.cookie + 1) r.errors r.tickets (seat_view c.reserve_some.new.seat) (seat_claims c.reserve_some.new.seat).facts) in
    let gone : total is_gone c.promise_run.new.cells.items ≡ total is_gone was = ap (total is_gone) c.promise_run.ensures ∙ total-on_each changed is_gone (λ _ _. refl) 0 low m was in
    let room = c.self.invariant.1 in (
      subst S (sym c.promise_run.ensures) (sound_unlogged (range_view r.geometry r.mode r.first was r.log.items r.cookie r.errors r.tickets (seat_view r.seat) (seat_claims r.seat).facts) now _ _ _ _ _ sound (length-on_each changed 0 low m was) places space),
      omega arith,
    )
