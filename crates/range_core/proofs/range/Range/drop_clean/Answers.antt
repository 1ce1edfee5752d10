use Rattle.std.proofs.Common.{◌≡◌, ℕ, ◌-◌, List, All, sym, ◌∙◌, ap, subst, arith}
use Rattle.turn_cell.specs.Seats.{seat_claims, seat_view}
use Rattle.turn_cell.specs.Stakes.{total}
use Rattle.range_core.specs.BlockTruth.{is_gone}
use Rattle.range_core.specs.Cells.{IsPlaced}
use Rattle.range_core.specs.DropCleans.{without_clean_page}
use Rattle.range_core.specs.OnRun.{on_each}
use Rattle.range_core.specs.RangeView.{IsSound, range_view}
use Rattle.range_core.specs.declared.cell.Cell.{Cell}
use Rattle.range_core.proofs.DropCleanLemmas.{dropped-gone, dropped-kind, dropped-placed}
use Rattle.range_core.proofs.OnRunLemmas.{All-on_each, length-on_each, map-on_each, total-on_each}
use Rattle.range_core.proofs.SoundLemmas.{sound_unlogged}
use Rattle.range_core.proofs.SpaceLemmas.{space_by_kinds}
use Rattle.range_core.proofs.range.Range.drop_clean.Goals as goal

abbrev drops : ℕ → Cell → Cell
drops _ c = without_clean_page c

pub invariant_of-self : goal.invariant_of-self
invariant_of-self c =
    let r = c.self.inside in
    let size : ℕ = r.geometry.block_size in
    let low : ℕ = c.args.block - r.first in
    let n : ℕ = c.args.blocks in
    let was : List Cell = r.cells.items in
    let now : List Cell = on_each drops 0 low n was in
    let sound = c.self.invariant.0 in
    let is : c.drop_run.new.cells.items ≡ now = c.drop_run.ensures.cells in
    let space = space_by_kinds size was now _ (map-on_each drops (λ (x : Cell). x.kind) (λ _. dropped-kind) 0 low n was) sound.space in
    let places : All (IsPlaced size) now = All-on_each drops (IsPlaced size) (λ _. dropped-placed size) 0 low n was sound.places in
    let S : List Cell → Type 0 = λ cells. IsSound (range_view r.geometry r.mode r.first cells r.log.items r.cookie r.errors r.tickets (seat_view r.seat) (seat_claims r.seat).facts) in
    let gone : total is_gone c.drop_run.new.cells.items ≡ total is_gone was = ap (total is_gone) is ∙ total-on_each drops is_gone (λ _. dropped-gone) 0 low n was in
    let room = c.self.invariant.1 in (
      subst S (sym is) (sound_unlogged (range_view r.geometry r.mode r.first was r.log.items r.cookie r.errors r.tickets (seat_view r.seat) (seat_claims r.seat).facts) now _ _ _ _ _ sound (length-on_each drops 0 low n was) places space),
      omega arith,
    )
