-- What is left of a mount at the end.
use Rattle.std.specs.Prelude.{◌≡◌, ℕ, ◌+◌, ◌<◌, ◌/◌, ◌%◌, Option, Some, None, List, [], ◌∷◌, ◌++◌, All, IsTrue, length, slice_get}
use Rattle.io_model.specs.Fitting.{is_merged_from}
use Rattle.io_model.specs.Kinds.{kind_at}
use Rattle.io_model.specs.declared.file.BlockEnd.{BlockEnd}
use Rattle.io_model.specs.declared.file.FileEnd.{FileEnd}
use Rattle.io_model.specs.declared.file.SizeStamp.{SizeStamp}
use Rattle.io_model.specs.declared.file.Unmounted.{Unmounted}
use Rattle.turn_cell.specs.Stakes.{total}
use Rattle.turn_cell.specs.Views.{CellView, SeatView}
use Rattle.range_core.specs.Happened.{HasHappened}
use Rattle.range_core.specs.RangeView.{RangeView}
use Rattle.range_core.specs.declared.cell.Cell.{Cell}
use Rattle.range_core.specs.declared.entry.Entry.{Entry}
use Rattle.size_core.specs.SizesView.{SizesView}
use Rattle.size_core.specs.declared.entry.SizeEntry.{SizeEntry}
use Rattle.mount_parts.specs.Ends.{EndsBlock, SawAll, end_numbers}
use Rattle.mount_parts.specs.MountView.{MountView}
use Rattle.mount_parts.specs.PoolEnds.{EndsPool}
use Rattle.mount_parts.specs.SizeEnds.{EndsSize}
use Rattle.mount_parts.specs.declared.file.FilePlace.{FilePlace}

-- A file with this size cell ends with the size and the stamps as the history that was seen there leaves them
pub record EndsSizeAt (cells : List (CellView SizesView)) (seats : List (SeatView SizeEntry)) (at : ℕ) (size : Option ℕ) (stamps : List SizeStamp) : Type 0 where
  pub now : ℕ
  pub size_is : size ≡ Some now
  pub ends : (cell : CellView SizesView) (seat : SeatView SizeEntry) → slice_get cells at ≡ Some cell → slice_get seats at ≡ Some seat → EndsSize cell.opening seat.seen now stamps

-- a file without a size cell ends without a size, and with no stamps there
abbrev pub EndsSizeOf : List (CellView SizesView) → List (SeatView SizeEntry) → Option ℕ → Option ℕ → List SizeStamp → Type 0
EndsSizeOf cells seats None size stamps = (size ≡ None) × (stamps ≡ [])
EndsSizeOf cells seats (Some at) size stamps = EndsSizeAt cells seats at size stamps

-- A file of a mount ends as the histories leave it that these seats have seen: its extents are merged and cover its blocks, each block ends as the history of its stripe leaves it, with the kind that the extents give, and the size as the history of its cell leaves it
pub record EndsFile (m : MountView) (stripes : List (SeatView Entry)) (sizes : List (SeatView SizeEntry)) (file : FilePlace) (end : FileEnd) : Type 0 where
  pub merged : IsTrue (is_merged_from 0 file.blocks end.extents)
  pub count : length end.blocks ≡ file.blocks
  pub blocks : (b : ℕ) (cell : CellView RangeView) (seat : SeatView Entry) (was : Cell) (block : BlockEnd)
      → slice_get m.stripes (file.stripe + b / 64) ≡ Some cell → slice_get stripes (file.stripe + b / 64) ≡ Some seat
      → slice_get cell.opening.cells (b % 64) ≡ Some was → slice_get end.blocks b ≡ Some block
      → EndsBlock m.geometry.block_size b was cell.opening.log seat.seen (kind_at end.extents b) block
  pub size : EndsSizeOf m.sizes sizes file.size end.size end.sizes

-- the numbers of the sectors of files' blocks, in order
abbrev pub file_numbers : List FileEnd → List ℕ
file_numbers [] = []
file_numbers (e ∷ ends) = end_numbers e.blocks ++ file_numbers ends

-- A mount was taken apart by the seats of one pass, which have seen the whole histories of its stripes and sizes and made each entry, once. Each history is one that can have happened, and each file ends as they leave it. The sectors of the blocks and the free ones have the numbers that the pool began with, each once; without stripes the idle sectors are what is free
pub record Unmounts (m : MountView) (stripes : List (SeatView Entry)) (sizes : List (SeatView SizeEntry)) (u : Unmounted) : Type 0 where
  pub saw : All SawAll stripes
  pub saw_sizes : All SawAll sizes
  pub happened : (k : ℕ) (cell : CellView RangeView) (seat : SeatView Entry) → slice_get m.stripes k ≡ Some cell → slice_get stripes k ≡ Some seat → HasHappened cell.opening seat.seen
  pub count : length u.files ≡ length m.files
  pub files : (k : ℕ) (file : FilePlace) (end : FileEnd) → slice_get m.files k ≡ Some file → slice_get u.files k ≡ Some end → EndsFile m stripes sizes file end
  pub pool : 0 < length m.stripes → EndsPool m.pool.opening (λ f. total f (file_numbers u.files)) u.free
  pub idle : length m.stripes ≡ 0 → u.free ≡ m.idle
