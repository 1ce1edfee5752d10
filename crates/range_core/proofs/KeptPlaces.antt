-- Events that change pages and dirty bits alone: each block keeps its kind, its sector, and whether that is away.
use Rattle.std.proofs.Common.{◌≡◌, ℕ, ◌+◌, ◌≤◌, ◌||◌, ◌&&◌, Option, List, length, ◌++◌, sym, ◌∙◌, ap, subst}
use Rattle.iob_base.specs.DeviceBlock.{DeviceBlock}
use Rattle.iob_base.specs.declared.stamp.Stamp.{Stamp}
use Rattle.io_model.specs.declared.file.Kind.{Kind}
use Rattle.space_pool.specs.declared.entry.PoolEntry.{PoolEntry}
use Rattle.turn_cell.specs.Stakes.{total}
use Rattle.turn_cell.specs.Views.{SeatView}
use Rattle.range_core.specs.Cells.{HasPlace, IsPlaced}
use Rattle.range_core.specs.EntryCounts.{one_where}
use Rattle.range_core.specs.Kinds.{is_delalloc, is_unwritten}
use Rattle.range_core.specs.OnRun.{on_each}
use Rattle.range_core.specs.RangeTruth.{is_lent_for_writing, pending}
use Rattle.range_core.specs.RangeView.{IsSound, RangeView, range_view}
use Rattle.range_core.specs.Space.{ClaimsSpace, SpaceClaims}
use Rattle.range_core.specs.Stamps.{stamps_from}
use Rattle.range_core.specs.declared.cell.Cell.{Cell}
use Rattle.range_core.specs.declared.lending.Away.{Away}
use Rattle.range_core.proofs.KindRuns.{kinds_of}
use Rattle.range_core.proofs.OnRunLemmas.{All-on_each, length-on_each, map-on_each, total-on_each}
use Rattle.range_core.proofs.SoundLemmas.{sound_next, stamps_from-range}
use Rattle.range_core.proofs.SpaceLemmas.{space_by_kinds}

-- each block keeps its kind, its sector, and whether that is away
pub record KeepsPlaces (f : ℕ → Cell → Cell) : Type 0 where
  pub kind : (j : ℕ) (c : Cell) → (f j c).kind ≡ c.kind
  pub sector : (j : ℕ) (c : Cell) → (f j c).sector ≡ c.sector
  pub away : (j : ℕ) (c : Cell) → (f j c).away ≡ c.away

module _ (f : ℕ → Cell → Cell) (keeps : KeepsPlaces f) where
  kept-placed : (size j : ℕ) (c : Cell) → IsPlaced size c → IsPlaced size (f j c)
  kept-placed size j c h =
      let K : Kind → Type 0 = λ k. HasPlace size k (f j c).sector (f j c).away in
      let S : Option DeviceBlock → Type 0 = λ s. HasPlace size c.kind s (f j c).away in
      let A : Option Away → Type 0 = λ a. HasPlace size c.kind c.sector a in
      subst K (sym (keeps.kind j c)) (subst S (sym (keeps.sector j c)) (subst A (sym (keeps.away j c)) h))

  kept-pending : (j : ℕ) (c : Cell) → pending (f j c) ≡ pending c
  kept-pending j c =
      ap (λ k. one_where (is_delalloc k || (is_unwritten k && is_lent_for_writing (f j c).away))) (keeps.kind j c)
      ∙ ap (λ a. one_where (is_delalloc c.kind || (is_unwritten c.kind && is_lent_for_writing a))) (keeps.away j c)

  pub kept_kinds : (low n : ℕ) (cells : List Cell) → kinds_of (on_each f 0 low n cells) ≡ kinds_of cells
  kept_kinds low n cells = map-on_each f (λ (c : Cell). c.kind) keeps.kind 0 low n cells

  pub kept_pending : (low n : ℕ) (cells : List Cell) → total pending (on_each f 0 low n cells) ≡ total pending cells
  kept_pending low n cells = total-on_each f pending kept-pending 0 low n cells

  pub kept_space : (size low n : ℕ) (cells : List Cell) (space : SpaceClaims) → ClaimsSpace size cells space → ClaimsSpace size (on_each f 0 low n cells) space
  kept_space size low n cells space h = space_by_kinds size cells (on_each f 0 low n cells) space (kept_kinds low n cells) h

  -- a range stays sound where such an event leaves a stamp on each block of a run of it
  pub kept_sound : (r : RangeView) (b n low : ℕ) (st : Stamp) (cells : List Cell) (log : List (ℕ × Stamp)) (cookie errors tickets : ℕ) (seat : SeatView PoolEntry) → IsSound r → r.first ≤ b → b + n ≤ r.first + length r.cells
      → cells ≡ on_each f 0 low n r.cells → log ≡ r.log ++ stamps_from b n st → IsSound (range_view r.geometry r.mode r.first cells log cookie errors tickets seat r.space)
  kept_sound r b n low st cells log cookie errors tickets seat s first last are joined =
      let size : ℕ = r.geometry.block_size in
      let S : List Cell → Type 0 = λ xs. IsSound (range_view r.geometry r.mode r.first xs log cookie errors tickets seat r.space) in
      subst S (sym are)
      (sound_next r (on_each f 0 low n r.cells) log (stamps_from b n st) cookie errors tickets seat r.space s (length-on_each f 0 low n r.cells)
      (All-on_each f (IsPlaced size) (kept-placed size) 0 low n r.cells s.places) joined (stamps_from-range r.first (length r.cells) b n st first last)
      (kept_space size low n r.cells r.space s.space))
