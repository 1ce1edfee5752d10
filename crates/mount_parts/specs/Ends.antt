-- What is left of the blocks of a file at the end.
use Rattle.std.specs.Prelude.{◌≡◌, ℕ, ◌+◌, is_some, Option, Some, None, List, [], ◌∷◌, ◌++◌, All, IsTrue, length, slice_get}
use Rattle.iob_base.specs.DeviceBlock.{DeviceBlock}
use Rattle.iob_base.specs.declared.stamp.Stamp.{Stamp}
use Rattle.io_model.specs.Finals.{final_content}
use Rattle.io_model.specs.Fitting.{is_merged_from}
use Rattle.io_model.specs.Kinds.{device_number, kind_at, mapped_number}
use Rattle.io_model.specs.declared.file.BlockEnd.{BlockEnd}
use Rattle.io_model.specs.declared.file.Extent.{Extent}
use Rattle.io_model.specs.declared.file.Kind.{Kind}
use Rattle.space_pool.specs.declared.claims.PoolClaims.{PoolClaims}
use Rattle.space_pool.specs.declared.entry.PoolEntry.{PoolEntry}
use Rattle.turn_cell.specs.Stakes.{total}
use Rattle.turn_cell.specs.Views.{CellView, SeatView, WasHeld}
use Rattle.range_core.specs.BlockContents.{opening_bytes, replayed}
use Rattle.range_core.specs.BlockStates.{state_of, states_replayed}
use Rattle.range_core.specs.Cells.{HasSector}
use Rattle.range_core.specs.ClaimsView.{ClaimsView}
use Rattle.range_core.specs.EntryStamps.{stamps_in}
use Rattle.range_core.specs.Happened.{HasHappened}
use Rattle.range_core.specs.RangeView.{RangeView, part_in}
use Rattle.range_core.specs.Space.{SpaceClaims}
use Rattle.range_core.specs.Stamps.{stamps_at}
use Rattle.range_core.specs.declared.cell.Cell.{Cell}
use Rattle.range_core.specs.declared.entry.Entry.{Entry}

-- Block b ends as this history leaves what it was at the opening, where `log` has the stamps from before: its kind, the sector of that kind, a dirty page exactly where the history leaves it dirty, the replay as its content, which has the length of a block, and its stamps in order
pub record EndsBlock (size b : ℕ) (was : Cell) (log : List (ℕ × Stamp)) (history : List Entry) (kind : Kind) (end : BlockEnd) : Type 0 where
  pub kind_is : kind ≡ (states_replayed size b (state_of was) history).kind
  pub sector_is : HasSector size (device_number kind) end.sector
  pub dirty_is : is_some end.dirty ≡ (states_replayed size b (state_of was) history).dirty
  pub content_is : final_content size (mapped_number kind) end.sector end.dirty ≡ replayed size b (opening_bytes size (Some was)) history
  pub whole : length (replayed size b (opening_bytes size (Some was)) history) ≡ size
  pub journal_is : end.journal ≡ stamps_at b (log ++ stamps_in size history)

-- The blocks of a range end as this history, which is one that can have happened, leaves them, and the extents are merged and give each its kind
pub record EndsRange (opening : RangeView) (history : List Entry) (extents : List Extent) (ends : List BlockEnd) : Type 0 where
  pub merged : IsTrue (is_merged_from opening.first (opening.first + length opening.cells) extents)
  pub count : length ends ≡ length opening.cells
  pub blocks : (i : ℕ) (was : Cell) (end : BlockEnd) → slice_get opening.cells i ≡ Some was → slice_get ends i ≡ Some end
      → EndsBlock opening.geometry.block_size (opening.first + i) was opening.log history (kind_at extents (opening.first + i)) end
  pub happened : HasHappened opening history

-- the number of a block's sector, where it has one
abbrev pub sector_number : Option DeviceBlock → List ℕ
sector_number None = []
sector_number (Some s) = s.number ∷ []

-- the numbers of the sectors of blocks, in order
abbrev pub end_numbers : List BlockEnd → List ℕ
end_numbers [] = []
end_numbers (e ∷ ends) = sector_number e.sector ++ end_numbers ends

-- The seat of a range at its pool has the share that it had at the opening, and claims the numbers of these blocks' sectors: however numbers are weighed, both weigh the same
pub record EndsSpace (opening : RangeView) (ends : List BlockEnd) (seat : SeatView PoolEntry) (space : SpaceClaims) : Type 0 where
  pub part : part_in seat ≡ part_in opening.seat
  pub numbers : (f : ℕ → ℕ) → total f space.numbers ≡ total f (end_numbers ends)
  pub size : space.size ≡ opening.geometry.block_size
  pub cap : space.cap ≡ length opening.cells

-- The seat has seen the whole history and made each entry of it, once, and each time that it found the gate held a turn of that history held it
pub record SawAll {E : Type 0} (seat : SeatView E) : Type 0 where
  pub once : (f : E → ℕ) → total f seat.seen ≡ total f seat.made
  pub refused : All (WasHeld (length seat.seen)) seat.refused

-- what is left of a range: its extents, the ends of its blocks, and its seat at the pool with what that claims
pub record RangeEndView : Type 0 where
  pub extents : List Extent
  pub blocks : List BlockEnd
  pub seat : SeatView PoolEntry
  pub space : SpaceClaims

abbrev pub range_end : List Extent → List BlockEnd → SeatView PoolEntry → PoolClaims → RangeEndView
range_end extents blocks seat claims = record { extents = extents; blocks = blocks; seat = seat; space = claims.facts }

-- the seat claims no blocks
abbrev pub ClaimsNoBlocks : ClaimsView → Type 0
ClaimsNoBlocks c = c.held ≡ None

-- This is left of the range in a cell that this seat has closed
pub record IsEnd (cell : CellView RangeView) (seat : SeatView Entry) (end : RangeEndView) : Type 0 where
  pub saw : SawAll seat
  pub ends : EndsRange cell.opening seat.seen end.extents end.blocks
  pub space : EndsSpace cell.opening end.blocks end.seat end.space

-- These are left of the ranges in cells, each closed by the seat in its place
pub record AreEnds (cells : List (CellView RangeView)) (seats : List (SeatView Entry)) (ends : List RangeEndView) : Type 0 where
  pub count : length ends ≡ length cells
  pub each : (k : ℕ) (cell : CellView RangeView) (seat : SeatView Entry) (end : RangeEndView) → slice_get cells k ≡ Some cell → slice_get seats k ≡ Some seat → slice_get ends k ≡ Some end → IsEnd cell seat end
