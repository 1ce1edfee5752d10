use Rattle.std.proofs.Common.{◌≡◌, ℕ, ◌-◌, List, All, sym, ◌∙◌, ap, subst, arith}
use Rattle.turn_cell.specs.Seats.{seat_claims, seat_view}
use Rattle.turn_cell.specs.Stakes.{total}
use Rattle.space_pool.specs.Claims.{with_fewer}
use Rattle.range_core.specs.BlockTruth.{is_gone}
use Rattle.range_core.specs.Cells.{IsPlaced}
use Rattle.range_core.specs.OnRun.{count_on, on_each}
use Rattle.range_core.specs.Placing.{is_unused}
use Rattle.range_core.specs.RangeView.{IsSound, range_view}
use Rattle.range_core.specs.Reserves.{unpromised}
use Rattle.range_core.specs.Space.{ClaimsSpace, SpaceClaims}
use Rattle.range_core.specs.declared.cell.Cell.{Cell}
use Rattle.range_core.proofs.OnRunLemmas.{All-on_each, length-on_each, total-on_each}
use Rattle.range_core.proofs.UnreserveLemmas.{unpromised-gone, unpromised-placed, space_released, unused-few}
use Rattle.range_core.proofs.SoundLemmas.{sound_unlogged}
use Rattle.range_core.proofs.range.Range.unreserve.Goals as goal

abbrev changed : ℕ → Cell → Cell
changed _ c = unpromised c

pub unreserve_at-requires-clause-reserved : goal.unreserve_at-requires-clause-reserved
unreserve_at-requires-clause-reserved g c =
    let r = c.self.inside in
    let low : ℕ = c.args.block - r.first in
    let few = unused-few r.geometry.block_size low c.args.blocks r.cells.items (seat_claims r.seat).facts c.self.invariant.0.space in
    let counted : c.count_run-holes.result ≡ count_on is_unused low c.args.blocks r.cells.items = c.count_run-holes.ensures.count ∙ ap (count_on is_unused low c.args.blocks) c.deref.ensures.value in
    omega arith

pub invariant_of-self : goal.invariant_of-self
invariant_of-self g c =
    let r = c.self.inside in
    let size : ℕ = r.geometry.block_size in
    let low : ℕ = c.args.block - r.first in
    let n : ℕ = c.args.blocks in
    let was : List Cell = r.cells.items in
    let now : List Cell = on_each changed 0 low n was in
    let sound = c.self.invariant.0 in
    let counted : c.count_run-holes.result ≡ count_on is_unused low n was = c.count_run-holes.ensures.count ∙ ap (count_on is_unused low n) c.deref.ensures.value in
    let left : (seat_claims c.unreserve_at.new.seat).facts ≡ with_fewer (seat_claims r.seat).facts (count_on is_unused low n was) =
    c.unreserve_at.ensures.claims ∙ ap (with_fewer (seat_claims r.seat).facts) counted in
    let C : SpaceClaims → Type 0 = λ s. ClaimsSpace size now s in
    let space = subst C (sym left) (space_released size low n was (seat_claims r.seat).facts sound.space) in
    let places : All (IsPlaced size) now = All-on_each changed (IsPlaced size) (λ _. unpromised-placed size) 0 low n was sound.places in
    let S : List Cell → Type 0 = λ cells. IsSound (range_view r.geometry r.mode r.first cells r.log.items c.next_cookie-self-inside.result r.errors r.tickets (seat_view c.unreserve_at.new.seat) (seat_claims c.unreserve_at.new.seat).facts) in
    let gone : total is_gone c.release_run.new.cells.items ≡ total is_gone was = ap (total is_gone) c.release_run.ensures ∙ total-on_each changed is_gone (λ _. unpromised-gone) 0 low n was in
    let room = c.self.invariant.1 in (
      subst S (sym c.release_run.ensures) (sound_unlogged (range_view r.geometry r.mode r.first was r.log.items r.cookie r.errors r.tickets (seat_view r.seat) (seat_claims r.seat).facts) now _ _ _ _ _ sound (length-on_each changed 0 low n was) places space),
      omega arith,
    )
