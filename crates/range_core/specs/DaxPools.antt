-- What a seat does at the pool for blocks that are to be written past the page cache.
use Rattle.std.specs.Prelude.{◌≡◌, ℕ, ◌<◌, true, false, Ok, Err}
use Rattle.fault_device.specs.declared.lane.Done.{Done}
use Rattle.space_pool.specs.Claims.{with_more}
use Rattle.space_pool.specs.Pool.{PoolView, no_space}
use Rattle.range_core.specs.PoolTurns.{PoolPlace, ReservesAt, TurnsFor, UnreservesAt}
use Rattle.range_core.specs.declared.fault.EventFault.{EventFault}
use Rattle.range_core.specs.declared.fault.EventFault.TheVariants as fault

-- So many sectors were reserved, and a judgement did not fail
pub record HoldsHoles (opening : PoolView) (n : ℕ) (told : Done → Type 0) (before after : PoolPlace) : Type 0 where
  pub claims : after.space ≡ with_more before.space n
  pub turn : TurnsFor n (ReservesAt opening n (Ok tt)) before after
  pub done : Done
  pub passed : done.failed ≡ false
  pub judged : told done

-- So many sectors were reserved, and given up
pub record GivesUp (opening : PoolView) (n : ℕ) (before after : PoolPlace) : Type 0 where
  pub promised : PoolPlace
  pub reserved : TurnsFor n (ReservesAt opening n (Ok tt)) before promised
  pub unreserved : TurnsFor n (UnreservesAt opening n) promised after

-- there were too few sectors, and no judgement was made; or a judgement failed, and the reservation was given up
abbrev pub LosesHoles : PoolView → ℕ → (Done → Type 0) → Type 0 → PoolPlace → PoolPlace → EventFault → Type 0
LosesHoles opening n told same before after (fault.NoSpace wanted found) = ReservesAt opening n (Err (no_space wanted found)) before after × (wanted ≡ n) × (found < n) × same
LosesHoles opening n told same before after (fault.Poison done) = (done.failed ≡ true) × told done × GivesUp opening n before after
LosesHoles opening n told same before after _ = ⊥
