-- What contracts see of a pool, and what its calls do to it and to the claims of one seat.
use Rattle.std.specs.Prelude.{◌≡◌, ℕ, ◌+◌, ◌-◌, ◌≤◌, ◌==◌, if◌then◌else◌, nat_lt, min, List, length, All, Result, Ok, Err, OnOk, OnErr, IfOk}
use Rattle.iob_base.specs.DeviceBlock.{DeviceBlock}
use Rattle.space_pool.specs.declared.answer.NoSpace.{NoSpace}
use Rattle.space_pool.specs.declared.answer.Counts.{Counts}
use Rattle.space_pool.specs.Sectors.{TakesLowest, MovesInto}
use Rattle.space_pool.specs.Claims.{ClaimsView, numbers_of, times, AreAmong, Fits, with_more, with_fewer, with_taken, with_given, with_part_gone}

-- the free sectors, how many of them are reserved, and what the pool began with: the numbers of all its sectors, the cap on all claims together, and the block size
pub record PoolView : Type 0 where
  pub free : List DeviceBlock
  pub reserved : ℕ
  pub numbers : List ℕ
  pub cap : ℕ
  pub size : ℕ

-- a pool with these free sectors, of which so many are reserved, where these are the claims on all that there is
abbrev pub pool_view : List DeviceBlock → ℕ → ClaimsView → PoolView
pool_view free reserved whole = record { free = free; reserved = reserved; numbers = whole.numbers; cap = whole.cap; size = whole.size }

-- a pool that begins with these free sectors and no reservation
abbrev pub fresh_pool : List DeviceBlock → List ℕ → ℕ → ℕ → PoolView
fresh_pool free numbers cap size = record { free = free; reserved = 0; numbers = numbers; cap = cap; size = size }

-- how many sectors are free and not reserved
abbrev pub unreserved : PoolView → ℕ
unreserved p = length p.free - p.reserved

abbrev pub HasSize : ℕ → DeviceBlock → Type 0
HasSize size s = length s.bytes ≡ size

-- 1 for a sector of another size
abbrev pub misfit : ℕ → DeviceBlock → ℕ
misfit size s = if length s.bytes == size then 0 else 1

-- no number stands twice
abbrev pub AreDistinct : List ℕ → Type 0
AreDistinct numbers = (x : ℕ) → times x numbers ≤ 1

-- These are claims on this pool: of its block size, and no more than it lacks and has reserved
pub record IsClaimOn (p : PoolView) (c : ClaimsView) : Type 0 where
  pub size : c.size ≡ p.size
  pub numbers : length c.numbers + length p.free ≤ length p.numbers
  pub reserved : c.reserved ≤ p.reserved

-- These are claims on this pool side by side: of its block size, and together no more than it lacks and has reserved
pub record AreClaimsOn (p : PoolView) (c d : ClaimsView) : Type 0 where
  pub size : c.size ≡ p.size
  pub other_size : d.size ≡ p.size
  pub numbers : length c.numbers + length d.numbers + length p.free ≤ length p.numbers
  pub reserved : c.reserved + d.reserved ≤ p.reserved

-- whatever claims stood beside the first on the first pool stand beside the second on the second pool
abbrev pub KeepsOthers : PoolView → ClaimsView → PoolView → ClaimsView → Type 0
KeepsOthers p c q d = (other : ClaimsView) → AreClaimsOn p c other → AreClaimsOn q d other

abbrev pub more_reserved : PoolView → ℕ → PoolView
more_reserved p n = record p { reserved = p.reserved + n }

abbrev pub fewer_reserved : PoolView → ℕ → PoolView
fewer_reserved p n = record p { reserved = p.reserved - n }

abbrev pub with_free : PoolView → List DeviceBlock → PoolView
with_free p free = record p { free = free }

-- the same pool, with other free sectors and another reservation
abbrev pub with_stock : PoolView → List DeviceBlock → ℕ → PoolView
with_stock p free reserved = record p { free = free; reserved = reserved }

abbrev pub no_space : ℕ → ℕ → NoSpace
no_space wanted found = record { wanted = wanted; found = found }

-- what is answered to a wish for n sectors where so many are unreserved: all or none
abbrev pub reserve_answer : ℕ → ℕ → Result (Unit {0}) NoSpace
reserve_answer found n = if nat_lt found n then Err (no_space n found) else Ok tt

-- some or none
abbrev pub reserve_some_answer : ℕ → ℕ → Result ℕ NoSpace
reserve_some_answer found n = if found == 0 then Err (no_space n found) else Ok (min n found)

abbrev pub counts_of : PoolView → Counts
counts_of p = record { free = length p.free; reserved = p.reserved }

-- n sectors were reserved, or there were too few
pub record Reserves (n : ℕ) (p : PoolView) (c : ClaimsView) (answer : Result (Unit {0}) NoSpace) (q : PoolView) (d : ClaimsView) : Type 0 where
  pub found : answer ≡ reserve_answer (unreserved p) n
  pub ok : OnOk answer ((q ≡ more_reserved p n) × (d ≡ with_more c n))
  pub err : OnErr answer ((q ≡ p) × (d ≡ c))

-- n sectors were reserved, or as many as there were, or there was none
pub record ReservesSome (n : ℕ) (p : PoolView) (c : ClaimsView) (answer : Result ℕ NoSpace) (q : PoolView) (d : ClaimsView) : Type 0 where
  pub found : answer ≡ reserve_some_answer (unreserved p) n
  pub ok : IfOk answer (λ m. (q ≡ more_reserved p m) × (d ≡ with_more c m))
  pub err : OnErr answer ((q ≡ p) × (d ≡ c))

-- n sectors are reserved no longer
pub record Unreserves (n : ℕ) (p : PoolView) (c : ClaimsView) (q : PoolView) (d : ClaimsView) : Type 0 where
  pub pool : q ≡ fewer_reserved p n
  pub claims : d ≡ with_fewer c n

-- n reserved sectors went to the end of a list: those with the lowest numbers, in order
pub record Takes (n : ℕ) (p : PoolView) (c : ClaimsView) (before : List DeviceBlock) (q : PoolView) (d : ClaimsView) (after : List DeviceBlock) : Type 0 where
  pub lowest : TakesLowest n p.free before q.free after
  pub sized : All (HasSize p.size) lowest.taken
  pub pool : q ≡ with_free (fewer_reserved p n) q.free
  pub claims : d ≡ with_taken c lowest.taken

-- these sectors came back
pub record Gives (given : List DeviceBlock) (p : PoolView) (c : ClaimsView) (q : PoolView) (d : ClaimsView) : Type 0 where
  pub moved : MovesInto p.free given q.free
  pub pool : q ≡ with_free p q.free
  pub claims : d ≡ with_given c given

-- Sectors may come back: they are claimed, and of the pool's size
pub record CanGive (given : List DeviceBlock) (c : ClaimsView) : Type 0 where
  pub among : AreAmong (numbers_of given) c.numbers
  pub sized : All (HasSize c.size) given

-- These sectors and this cap may go to another seat: the sectors are claimed and within that cap, and what is left is within the cap that is left
pub record CanPart (held : List DeviceBlock) (cap : ℕ) (c : ClaimsView) : Type 0 where
  pub among : AreAmong (numbers_of held) c.numbers
  pub few : length held ≤ cap
  pub fits : Fits (with_part_gone c held 0) cap
