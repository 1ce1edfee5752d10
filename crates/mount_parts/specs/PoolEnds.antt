-- What is left of the pool of a mount at the end.
use Rattle.std.specs.Prelude.{◌≡◌, ℕ, ◌+◌, List, [], All, length}
use Rattle.iob_base.specs.DeviceBlock.{DeviceBlock}
use Rattle.space_pool.specs.Pool.{AreDistinct, HasSize, PoolView}
use Rattle.space_pool.specs.Sectors.{TakesLowest}
use Rattle.space_pool.specs.declared.claims.PoolClaims.{PoolClaims}
use Rattle.space_pool.specs.declared.entry.PoolEntry.{PoolEntry}
use Rattle.turn_cell.specs.Stakes.{total}
use Rattle.turn_cell.specs.Views.{SeatView}

-- the shares of seats at a pool, added up
abbrev pub share_of : SeatView PoolEntry → ℕ
share_of s = s.share

abbrev pub shares : List (SeatView PoolEntry) → ℕ
shares seats = total share_of seats

-- the weights of the numbers that seats at a pool claim, added up
abbrev pub number_weight : (ℕ → ℕ) → PoolClaims → ℕ
number_weight f claims = total f claims.facts.numbers

abbrev pub claimed : (ℕ → ℕ) → List PoolClaims → ℕ
claimed f claims = total (number_weight f) claims

-- These sectors are left of a pool whose seats claim so much: they have the block size and come in the order of their numbers; and together with the claimed ones their numbers are those that the pool began with, each once
pub record EndsPool (opening : PoolView) (claims : (ℕ → ℕ) → ℕ) (sectors : List DeviceBlock) : Type 0 where
  pub free : List DeviceBlock
  pub in_order : TakesLowest (length free) free [] [] sectors
  pub sized : All (HasSize opening.size) sectors
  pub numbers : (f : ℕ → ℕ) → total (λ s. f s.number) sectors + claims f ≡ total f opening.numbers
  pub distinct : AreDistinct opening.numbers
