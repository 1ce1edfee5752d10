-- What holds of a pool between any two turns.
use Rattle.std.specs.Prelude.{◌≡◌, ℕ, ◌+◌, ◌≤◌, List, length, Option, Some, None}
use mathlib.Core.Option.{some}
use lib.ListN.{get_elem?}
use Rattle.turn_cell.specs.Stakes.{Stake, total}
use Rattle.space_pool.specs.declared.claims.PoolClaims.{PoolClaims}
use Rattle.space_pool.specs.declared.entry.PoolEntry.{PoolEntry}
use Rattle.space_pool.specs.Sectors.{SameSectors}
use Rattle.space_pool.specs.Claims.{ClaimsView}
use Rattle.space_pool.specs.Pool.{PoolView, AreDistinct, unreserved, with_stock}
use Rattle.space_pool.specs.History.{unreserved_since, LeavesFree}

abbrev pub PoolStake : Type 0
PoolStake = Stake PoolClaims PoolEntry

-- a number of what is claimed, and 0 of a seat that was joined away
abbrev pub weight_of : (ClaimsView → ℕ) → Option PoolClaims → ℕ
weight_of g (Some c) = g c.facts
weight_of g None = 0

abbrev pub claimed : (ClaimsView → ℕ) → PoolStake → ℕ
claimed g s = weight_of g s.0

abbrev pub number_weight : (ℕ → ℕ) → ClaimsView → ℕ
number_weight f c = total f c.numbers

-- what is claimed and what is reserved is within the cap
abbrev pub IsWithin : ClaimsView → Type 0
IsWithin c = length c.numbers + c.reserved ≤ c.cap

-- Each number of the pool is free or claimed by one seat, once, and there are no others: however numbers are weighed, those that are free and those that seats claim weigh what all do
pub record KeepsNumbers (opening now : PoolView) (stakes : List PoolStake) : Type 0 where
  pub distinct : AreDistinct opening.numbers
  pub weighs : (f : ℕ → ℕ) → total (λ s. f s.number) now.free + total (claimed (number_weight f)) stakes ≡ total f opening.numbers

-- The caps of all seats add up to the pool's, and each seat is within its cap
pub record KeepsCaps (opening : PoolView) (stakes : List PoolStake) : Type 0 where
  pub adds : total (claimed (λ c. c.cap)) stakes ≡ opening.cap
  pub within : (number : ℕ) (c : PoolClaims) (made : List PoolEntry) → get_elem? stakes number ≡ some (Some c, made) → IsWithin c.facts × (c.facts.size ≡ opening.size)

-- What holds between any two turns: numbers and caps are kept, what is reserved is what the seats have reserved, and no more than is free, and the history tells how much is unreserved and which sectors are free
pub record PoolTruth (opening now : PoolView) (history : List PoolEntry) (stakes : List PoolStake) : Type 0 where
  pub numbers : KeepsNumbers opening now stakes
  pub caps : KeepsCaps opening stakes
  pub reserved : total (claimed (λ c. c.reserved)) stakes ≡ now.reserved
  pub enough : now.reserved ≤ length now.free
  pub told : unreserved now ≡ unreserved_since (unreserved opening) history
  pub stock : LeavesFree opening.free history now.free
  pub same : now ≡ with_stock opening now.free now.reserved

-- two pools that began with the same sectors and have the same history have the same sectors free, in some order
abbrev pub HistoryTellsTheFree : Type 0
HistoryTellsTheFree =
    (opening now later : PoolView) (history : List PoolEntry) (stakes others : List PoolStake) → PoolTruth opening now history stakes → PoolTruth opening later history others
    → SameSectors now.free later.free
