-- The history of a pool, and how many sectors it leaves unreserved.
use Rattle.std.specs.Prelude.{◌≡◌, ℕ, ◌+◌, ◌-◌, List, [], ◌∷◌, Result, Ok, Err}
use Rattle.iob_base.specs.DeviceBlock.{DeviceBlock}
use Rattle.turn_cell.specs.Stakes.{total}
use Rattle.space_pool.specs.declared.answer.NoSpace.{NoSpace}
use Rattle.space_pool.specs.declared.entry.PoolEntry.{PoolEntry}
use Rattle.space_pool.specs.declared.entry.PoolEntry.TheVariants.{Reserve, ReserveSome, Unreserve, Take, Give, Count}
use Rattle.space_pool.specs.Pool.{PoolView, unreserved}

abbrev pub after_reserve : ℕ → ℕ → Result (Unit {0}) NoSpace → ℕ
after_reserve count n (Ok done) = count - n
after_reserve count n (Err refused) = count

abbrev pub after_some : ℕ → Result ℕ NoSpace → ℕ
after_some count (Ok n) = count - n
after_some count (Err refused) = count

-- how many sectors are unreserved after an entry, where so many were before it
abbrev pub unreserved_after : ℕ → PoolEntry → ℕ
unreserved_after count (Reserve n answer) = after_reserve count n answer
unreserved_after count (ReserveSome n answer) = after_some count answer
unreserved_after count (Unreserve n) = count + n
unreserved_after count (Take n taken) = count
unreserved_after count (Give n given) = count + n
unreserved_after count (Count answer) = count

-- the same after all entries of a history
abbrev pub unreserved_since : ℕ → List PoolEntry → ℕ
unreserved_since count [] = count
unreserved_since count (e ∷ es) = unreserved_since (unreserved_after count e) es

-- the sectors that the turn of an entry took from those that were free
abbrev pub taken_by : PoolEntry → List DeviceBlock
taken_by (Reserve n answer) = []
taken_by (ReserveSome n answer) = []
taken_by (Unreserve n) = []
taken_by (Take n taken) = taken
taken_by (Give n given) = []
taken_by (Count answer) = []

-- and those that it gave back
abbrev pub given_by : PoolEntry → List DeviceBlock
given_by (Reserve n answer) = []
given_by (ReserveSome n answer) = []
given_by (Unreserve n) = []
given_by (Take n taken) = []
given_by (Give n given) = given
given_by (Count answer) = []

-- the weights of all sectors that the turns of a history took, or gave back
abbrev pub taken_since : (DeviceBlock → ℕ) → List PoolEntry → ℕ
taken_since f history = total (λ e. total f (taken_by e)) history

abbrev pub given_since : (DeviceBlock → ℕ) → List PoolEntry → ℕ
given_since f history = total (λ e. total f (given_by e)) history

-- The second sectors are what a history leaves free of the first: however sectors are weighed, they are the first less those that were taken and more those that came back
abbrev pub LeavesFree : List DeviceBlock → List PoolEntry → List DeviceBlock → Type 0
LeavesFree first history now = (f : DeviceBlock → ℕ) → total f now + taken_since f history ≡ total f first + given_since f history

-- A turn made this entry, and so many sectors were unreserved before it as the history tells
pub record Enters (opening value : PoolView) (history : List PoolEntry) (entry made : PoolEntry) : Type 0 where
  pub entry_is : entry ≡ made
  pub found : unreserved value ≡ unreserved_since (unreserved opening) history
