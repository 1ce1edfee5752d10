use Rattle.std.specs.Prelude.{ℕ, ◌+◌, ◌-◌, ◌<◌, ◌≤◌, List, [], length, drop, All}
use Rattle.atomic_table.specs.Seated.{TableId}
use Rattle.iob_base.specs.DeviceBlock.{DeviceBlock}
use Rattle.iob_base.specs.Layout.{Layout}
use Rattle.iob_base.specs.declared.stamp.Mode.{Mode}
use Rattle.iob_base.specs.declared.stamp.Stamp.{Stamp}
use Rattle.io_model.specs.declared.file.Extent.{Extent}
use Rattle.space_pool.specs.declared.entry.PoolEntry.{PoolEntry}
use Rattle.turn_cell.specs.Views.{SeatView}
use Rattle.range_core.specs.Cells.{IsPlaced, cells_of}
use Rattle.range_core.specs.Kinds.{kinds_from}
use Rattle.range_core.specs.Space.{ClaimsSpace, SpaceClaims}
use Rattle.range_core.specs.declared.cell.Cell.{Cell}

-- a run of blocks of a file: the sizes, the file's mode, the number of the first block, the blocks, the
-- stamps with their blocks in the order of the events that left them, the cookie, the count of failed
-- writebacks, the number of the next ticket, the seat at the pool, and what that seat claims there
pub record RangeView : Type 0 where
  pub geometry : Layout
  pub mode : Mode
  pub first : ℕ
  pub cells : List Cell
  pub log : List (ℕ × Stamp)
  pub cookie : ℕ
  pub errors : ℕ
  pub tickets : ℕ
  pub seat : SeatView PoolEntry
  pub space : SpaceClaims

-- which pool a seat is at, and its share of it
abbrev pub part_in : SeatView PoolEntry → TableId × ℕ
part_in seat = (seat.cell, seat.share)

abbrev pub range_view : Layout → Mode → ℕ → List Cell → List (ℕ × Stamp) → ℕ → ℕ → ℕ → SeatView PoolEntry → SpaceClaims → RangeView
range_view geometry mode first cells log cookie errors tickets seat space =
    record { geometry = geometry; mode = mode; first = first; cells = cells; log = log; cookie = cookie; errors = errors; tickets = tickets; seat = seat; space = space }

-- a range before the first event
abbrev pub range_of : Layout → Mode → ℕ → ℕ → List Extent → List DeviceBlock → SeatView PoolEntry → SpaceClaims → ℕ → RangeView
range_of geometry mode first blocks extents sectors seat space cookie =
    range_view geometry mode first (cells_of (kinds_from extents first blocks) sectors) [] cookie 0 0 seat space

-- the blocks of a range from one on
abbrev pub cells_from : RangeView → ℕ → List Cell
cells_from r b = drop (b - r.first) r.cells

-- a stamp is of a block of the range
pub record IsOfRange (first blocks : ℕ) (entry : ℕ × Stamp) : Type 0 where
  pub low : first ≤ entry.0
  pub high : entry.0 < first + blocks

-- what is true of every range: its blocks have their sectors or are away, its stamps are of its blocks, and its seat at the pool claims the space of its blocks
pub record IsSound (r : RangeView) : Type 0 where
  pub places : All (IsPlaced r.geometry.block_size) r.cells
  pub few : r.first + length r.cells ≤ 65536
  pub logged : All (IsOfRange r.first (length r.cells)) r.log
  pub space : ClaimsSpace r.geometry.block_size r.cells r.space

-- a run of blocks lies in a range
pub record LiesAt (r : RangeView) (b n : ℕ) : Type 0 where
  pub low : r.first ≤ b
  pub some : 0 < n
  pub high : b + n ≤ r.first + length r.cells
