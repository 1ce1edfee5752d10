-- What the turns of a range's seat at the pool did.
use Rattle.std.specs.Prelude.{◌≡◌, ℕ, zero, suc, List, [], length, Result}
use Rattle.iob_base.specs.DeviceBlock.{DeviceBlock}
use Rattle.space_pool.specs.Pool.{PoolView, no_space}
use Rattle.space_pool.specs.Turns.{KeepsSeat, TurnedAt, GiveTurns, ReserveSomeTurns, ReserveTurns, TakeTurns, UnreserveTurns}
use Rattle.space_pool.specs.declared.answer.NoSpace.{NoSpace}
use Rattle.space_pool.specs.declared.claims.PoolClaims.{PoolClaims}
use Rattle.space_pool.specs.declared.entry.PoolEntry.{PoolEntry}
use Rattle.turn_cell.specs.Views.{SeatView}
use Rattle.range_core.specs.RangeView.{RangeView}
use Rattle.range_core.specs.Space.{SpaceClaims}
use Rattle.range_core.specs.declared.fault.EventFault.{EventFault}
use Rattle.range_core.specs.declared.fault.EventFault.TheVariants as fault

-- a place at the pool: a seat there, and what that seat claims
pub record PoolPlace : Type 0 where
  pub seat : SeatView PoolEntry
  pub space : SpaceClaims

-- the place of this seat, with what it claims
abbrev pub place_at : SeatView PoolEntry → SpaceClaims → PoolPlace
place_at seat space = record { seat = seat; space = space }

-- the place of a range
abbrev pub place_of : RangeView → PoolPlace
place_of r = place_at r.seat r.space

-- the claims of which contracts see this
abbrev pub claims_on : SpaceClaims → PoolClaims
claims_on space = record { facts = space }

-- One turn at a pool that was opened so: it did this, and the seat stays at its pool
pub record PoolTurn (opening : PoolView) (does : PoolClaims → PoolClaims → List PoolEntry → PoolView → PoolView → PoolEntry → Type 0) (before after : PoolPlace) : Type 0 where
  pub keeps : KeepsSeat before.seat after.seat
  pub turned : TurnedAt opening (does (claims_on before.space) (claims_on after.space)) (claims_on before.space) (claims_on after.space) before.seat after.seat

-- n sectors were asked for: all or none
abbrev pub ReservesAt : PoolView → ℕ → Result (Unit {0}) NoSpace → PoolPlace → PoolPlace → Type 0
ReservesAt opening n answer before after = PoolTurn opening (λ claims left history value next entry. ReserveTurns opening claims left history value next entry n answer) before after

-- n sectors were asked for, or as many as there were
abbrev pub ReservesSomeAt : PoolView → ℕ → Result ℕ NoSpace → PoolPlace → PoolPlace → Type 0
ReservesSomeAt opening n answer before after = PoolTurn opening (λ claims left history value next entry. ReserveSomeTurns opening claims left history value next entry n answer) before after

-- the reservation of n sectors was given up
abbrev pub UnreservesAt : PoolView → ℕ → PoolPlace → PoolPlace → Type 0
UnreservesAt opening n before after = PoolTurn opening (λ claims left history value next entry. UnreserveTurns opening claims left history value next entry n) before after

-- n reserved sectors were taken: these, in order
abbrev pub TakesAt : PoolView → ℕ → List DeviceBlock → PoolPlace → PoolPlace → Type 0
TakesAt opening n taken before after = PoolTurn opening (λ claims left history value next entry. TakeTurns opening claims left history value next entry n [] taken) before after

-- these sectors were given back
abbrev pub GivesAt : PoolView → List DeviceBlock → PoolPlace → PoolPlace → Type 0
GivesAt opening given before after = PoolTurn opening (λ claims left history value next entry. GiveTurns opening claims left history value next entry given) before after

-- a turn for so many sectors, and none for no sector
abbrev pub TurnsFor : ℕ → (PoolPlace → PoolPlace → Type 0) → PoolPlace → PoolPlace → Type 0
TurnsFor zero turn before after = after ≡ before
TurnsFor (suc n) turn before after = turn before after

-- These sectors were given back, and then the reservation of so many more was given up
pub record GivesBack (opening : PoolView) (sectors : List DeviceBlock) (promised : ℕ) (before after : PoolPlace) : Type 0 where
  pub given : PoolPlace
  pub gave : TurnsFor (length sectors) (GivesAt opening sectors) before given
  pub unreserved : TurnsFor promised (UnreservesAt opening promised) given after

-- a range with another view of its seat at the pool
abbrev pub at_seat : RangeView → SeatView PoolEntry → RangeView
at_seat r seat = record r { seat = seat }

-- A refused event left the range as it was; where it found too little space, its seat had that turn at the pool
abbrev pub LeavesAlone : (NoSpace → PoolPlace → PoolPlace → Type 0) → EventFault → RangeView → RangeView → Type 0
LeavesAlone turn (fault.NoSpace wanted found) before after = (after ≡ at_seat before after.seat) × turn (no_space wanted found) (place_of before) (place_of after)
LeavesAlone turn _ before after = after ≡ before
