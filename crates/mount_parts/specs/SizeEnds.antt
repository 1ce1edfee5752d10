-- What is left of the sizes of files at the end.
use Rattle.std.specs.Prelude.{◌≡◌, ℕ, ◌≤◌, true, Some, List, ◌++◌, length, slice_get}
use Rattle.io_model.specs.Sizes.{replayed_size, sees_replayed}
use Rattle.io_model.specs.declared.file.SizeStamp.{SizeStamp}
use Rattle.size_core.specs.History.{stamps_in}
use Rattle.size_core.specs.SizesView.{SizesView}
use Rattle.size_core.specs.declared.entry.SizeEntry.{SizeEntry}
use Rattle.turn_cell.specs.Views.{CellView, SeatView}
use Rattle.mount_parts.specs.Ends.{SawAll}
use Rattle.mount_parts.specs.declared.size_end.SizeEnd.{SizeEnd}

-- A size ends as this history leaves what it was at the opening: it is the replay, at most the declared end, each look found the replay before it, and the journal has the entries in order
pub record EndsSize (opening : SizesView) (history : List SizeEntry) (size : ℕ) (stamps : List SizeStamp) : Type 0 where
  pub size_is : size ≡ replayed_size opening.size (stamps_in history)
  pub within : size ≤ opening.end
  pub looks : sees_replayed opening.size (stamps_in history) ≡ true
  pub journal_is : stamps ≡ opening.stamps ++ stamps_in history

-- This is left of the size in a cell that this seat has closed
pub record IsSizeEnd (cell : CellView SizesView) (seat : SeatView SizeEntry) (end : SizeEnd) : Type 0 where
  pub saw : SawAll seat
  pub ends : EndsSize cell.opening seat.seen end.size end.stamps

-- These are left of the sizes in cells, each closed by the seat in its place
pub record AreSizeEnds (cells : List (CellView SizesView)) (seats : List (SeatView SizeEntry)) (ends : List SizeEnd) : Type 0 where
  pub count : length ends ≡ length cells
  pub each : (k : ℕ) (cell : CellView SizesView) (seat : SeatView SizeEntry) (end : SizeEnd) → slice_get cells k ≡ Some cell → slice_get seats k ≡ Some seat → slice_get ends k ≡ Some end → IsSizeEnd cell seat end
