use Rattle.std.specs.Prelude.{◌≡◌, ℕ, ◌+◌, ◌<◌, ◌≤◌, IsTrue, List, length, map, All}
use Rattle.iob_base.specs.DeviceBlock.{DeviceBlock}
use Rattle.iob_base.specs.declared.TheConstants.{WORN}
use Rattle.io_model.specs.declared.file.Extent.{Extent}
use Rattle.space_pool.specs.Pool.{AreDistinct}
use Rattle.turn_cell.specs.Stakes.{total}
use Rattle.range_core.specs.Kinds.{HasNumbers, has_space, kinds_from, numbers_of}
use Rattle.range_core.specs.Space.{SpaceClaims}

-- an extent has space, and lies among so many blocks from one on
pub record LiesIn (first blocks : ℕ) (extent : Extent) : Type 0 where
  pub placed : IsTrue (has_space extent.kind)
  pub low : first ≤ extent.block
  pub high : extent.block + extent.length ≤ first + blocks
  pub numbers : HasNumbers extent

-- a seat at the pool claims the numbers of these sectors, which all differ, has reserved none, and may claim one for each block
pub record ClaimsSectors (size blocks : ℕ) (sectors : List DeviceBlock) (space : SpaceClaims) : Type 0 where
  pub numbers : (f : ℕ → ℕ) → total f space.numbers ≡ total (λ s. f s.number) sectors
  pub distinct : AreDistinct space.numbers
  pub reserved : space.reserved ≡ 0
  pub cap : space.cap ≡ blocks
  pub sized : space.size ≡ size

-- what a range is made of: 1 to 65,536 blocks of a file with at most so many, extents with space in it,
-- their sectors, in order of blocks and whole, and a seat at the pool that claims these
pub record CanOpen (size first blocks : ℕ) (extents : List Extent) (sectors : List DeviceBlock) (space : SpaceClaims) (cookie : ℕ) : Type 0 where
  pub some : 0 < blocks
  pub few : first + blocks ≤ 65536
  pub inside : All (LiesIn first blocks) extents
  pub sectors_are : map (λ s. s.number) sectors ≡ numbers_of (kinds_from extents first blocks)
  pub whole : All (λ s. length s.bytes ≡ size) sectors
  pub space_is : ClaimsSectors size blocks sectors space
  pub unworn : cookie ≤ WORN
