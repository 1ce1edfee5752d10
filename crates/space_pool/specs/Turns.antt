-- What each call tells of its turn.
use Rattle.std.specs.Prelude.{◌≡◌, ℕ, ◌+◌, List, [], All, Result, length}
use Rattle.iob_base.specs.DeviceBlock.{DeviceBlock}
use Rattle.turn_cell.specs.Stakes.{Begins, total}
use Rattle.turn_cell.specs.Views.{SeatView, Turned, Closed}
use Rattle.space_pool.specs.declared.answer.NoSpace.{NoSpace}
use Rattle.space_pool.specs.declared.answer.Counts.{Counts}
use Rattle.space_pool.specs.declared.claims.PoolClaims.{PoolClaims}
use Rattle.space_pool.specs.declared.entry.PoolEntry.{PoolEntry}
use Rattle.space_pool.specs.declared.entry.PoolEntry.TheVariants.{Reserve, ReserveSome, Unreserve, Take, Give, Count}
use Rattle.space_pool.specs.Sectors.{TakesLowest}
use Rattle.space_pool.specs.Pool.{PoolView, HasSize, AreDistinct, Reserves, ReservesSome, Unreserves, Takes, Gives, counts_of}
use Rattle.space_pool.specs.History.{Enters, LeavesFree}
use Rattle.space_pool.specs.Truth.{PoolTruth}

-- one turn of a seat at a pool that was opened so: what it did to the pool and to the claims, and the truth before and after it
abbrev pub TurnedAt : PoolView → (List PoolEntry → PoolView → PoolView → PoolEntry → Type 0) → PoolClaims → PoolClaims → SeatView PoolEntry → SeatView PoolEntry → Type 0
TurnedAt opening does claims left before after = Turned PoolTruth does opening claims left before after

-- a turn leaves a seat at its pool, with its share, and may refuse words before it
pub record KeepsSeat (before after : SeatView PoolEntry) : Type 0 where
  pub cell : after.cell ≡ before.cell
  pub share : after.share ≡ before.share
  pub refused : Begins before.refused after.refused

module _ (opening : PoolView) (claims left : PoolClaims) (history : List PoolEntry) (value next : PoolView) (entry : PoolEntry) where
  abbrev pub ReserveTurns : ℕ → Result (Unit {0}) NoSpace → Type 0
  ReserveTurns n answer = Reserves n value claims.facts answer next left.facts × Enters opening value history entry (Reserve n answer)

  abbrev pub ReserveSomeTurns : ℕ → Result ℕ NoSpace → Type 0
  ReserveSomeTurns n answer = ReservesSome n value claims.facts answer next left.facts × Enters opening value history entry (ReserveSome n answer)

  abbrev pub UnreserveTurns : ℕ → Type 0
  UnreserveTurns n = Unreserves n value claims.facts next left.facts × Enters opening value history entry (Unreserve n)

  abbrev pub TakeTurns : ℕ → List DeviceBlock → List DeviceBlock → Type 0
  TakeTurns n before after = (t : Takes n value claims.facts before next left.facts after) × Enters opening value history entry (Take n t.lowest.taken)

  abbrev pub GiveTurns : List DeviceBlock → Type 0
  GiveTurns given = Gives given value claims.facts next left.facts × Enters opening value history entry (Give (length given) given)

  abbrev pub CountTurns : Counts → Type 0
  CountTurns answer = (answer ≡ counts_of value) × (next ≡ value) × (left.facts ≡ claims.facts) × Enters opening value history entry (Count answer)

-- A pool is closed: these are its free sectors, in the order of their numbers, of the block size, and the truth holds of them with the claims of the one seat that is left. Their numbers and those that this seat claims are those of the opening, each once; and they are what the history leaves free
pub record ClosesPool (opening : PoolView) (seat : SeatView PoolEntry) (claims : PoolClaims) (sectors : List DeviceBlock) : Type 0 where
  pub value : PoolView
  pub closed : Closed PoolTruth opening value seat claims
  pub all : TakesLowest (length value.free) value.free [] [] sectors
  pub sized : All (HasSize opening.size) sectors
  pub numbers : (f : ℕ → ℕ) → total (λ s. f s.number) sectors + total f claims.facts.numbers ≡ total f opening.numbers
  pub distinct : AreDistinct opening.numbers
  pub stock : LeavesFree opening.free seat.seen sectors
