-- What the seat of a range at the pool claims for the blocks of the range.
use Rattle.std.specs.Prelude.{◌≡◌, ℕ, Option, Some, None, List, length}
use Rattle.io_model.specs.Kinds.{device_number}
use Rattle.space_pool.specs.Claims.{ClaimsView}
use Rattle.space_pool.specs.Pool.{AreDistinct}
use Rattle.turn_cell.specs.Stakes.{total}
use Rattle.range_core.specs.EntryCounts.{one_where}
use Rattle.range_core.specs.Kinds.{is_delalloc}
use Rattle.range_core.specs.declared.cell.Cell.{Cell}

-- what a seat at the pool claims
abbrev pub SpaceClaims : Type 0
SpaceClaims = ClaimsView

abbrev pub weigh_number : (ℕ → ℕ) → Option ℕ → ℕ
weigh_number f None = 0
weigh_number f (Some d) = f d

-- the weight of the number of a block's sector, wherever that sector is
abbrev pub number_weight : (ℕ → ℕ) → Cell → ℕ
number_weight f c = weigh_number f (device_number c.kind)

-- 1 for a block that has space only promised to it
abbrev pub promised : Cell → ℕ
promised c = one_where (is_delalloc c.kind)

-- The seat claims the numbers of the sectors of these blocks, here and away, which all differ; it has reserved one sector for each block that has space only promised to it; and it may claim one for each block
pub record ClaimsSpace (size : ℕ) (cells : List Cell) (space : SpaceClaims) : Type 0 where
  pub numbers : (f : ℕ → ℕ) → total f space.numbers ≡ total (number_weight f) cells
  pub distinct : AreDistinct space.numbers
  pub reserved : space.reserved ≡ total promised cells
  pub cap : space.cap ≡ length cells
  pub sized : space.size ≡ size
