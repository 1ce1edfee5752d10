-- What a turn does in which blocks take sectors: dirty ones that have space promised to them, or all that have none.
use Rattle.std.specs.Prelude.{◌≡◌, ℕ, ◌+◌, ◌-◌, ◌<◌, nat_lt, All, Bool, List, length, None, Result, Ok, Err, IfOk, IfErr, Option, Some, unwrap_or}
use Rattle.iob_base.specs.DeviceBlock.{DeviceBlock}
use Rattle.space_pool.specs.Claims.{with_more, with_taken}
use Rattle.space_pool.specs.Pool.{HasSize, PoolView}
use Rattle.space_pool.specs.Seats.{pool_cell}
use Rattle.space_pool.specs.declared.entry.PoolEntry.{PoolEntry}
use Rattle.turn_cell.specs.Views.{SeatView}
use Rattle.range_core.specs.ClaimsView.{ClaimsView}
use Rattle.range_core.specs.EntryCounts.{one_where}
use Rattle.range_core.specs.OnRun.{with_each}
use Rattle.range_core.specs.Placing.{awaits_sector, count_in, is_empty, lacks_sector, pairs_from, placed_at}
use Rattle.range_core.specs.PoolTurns.{LeavesAlone, PoolPlace, ReservesAt, TakesAt, TurnsFor, place_of}
use Rattle.range_core.specs.RangeView.{LiesAt, RangeView}
use Rattle.range_core.specs.Refusals.{attach_refusal, preallocate_refusal, run_of}
use Rattle.range_core.specs.Space.{SpaceClaims}
use Rattle.range_core.specs.declared.cell.Cell.{Cell}
use Rattle.range_core.specs.declared.entry.Entry.{Entry}
use Rattle.range_core.specs.declared.entry.Event.TheVariants.{Attach, Preallocate}
use Rattle.range_core.specs.declared.entry.Outcome.TheVariants.{Refused, Took}
use Rattle.range_core.specs.declared.fault.EventFault.{EventFault}
use Rattle.range_core.specs.declared.fault.EventFault.TheVariants.{NoMemory, NoSpace}
use Rattle.range_core.specs.declared.range.attach.AttachRun.{AttachRun}
use Rattle.range_core.specs.declared.range.attach.PreallocateRun.{PreallocateRun}

-- a run of blocks of which the picked ones took these sectors, in order of blocks, where this is the seat at the pool then, and what it claims
abbrev pub placed_run : (Cell → Bool) → RangeView → ℕ → ℕ → List DeviceBlock → SeatView PoolEntry → SpaceClaims → RangeView
placed_run picks r b n sectors seat space =
    record (with_each (placed_at picks (b - r.first) r.cells sectors) r b n) { cookie = r.cookie + one_where (nat_lt 0 (count_in picks r b n)); seat = seat; space = space }

-- the numbers of the blocks that took sectors, each with that of its sector
abbrev pub pairs_taken : (Cell → Bool) → RangeView → ℕ → ℕ → List DeviceBlock → List (ℕ × ℕ)
pairs_taken picks r b n sectors = pairs_from picks b (run_of r b n) sectors

-- Each block of the run that was to be written and had space promised to it took a sector of the reservation
pub record Attaches (opening : PoolView) (before : RangeView) (b n : ℕ) (after : RangeView) (taken : ℕ) : Type 0 where
  pub sectors : List DeviceBlock
  pub count : taken ≡ count_in awaits_sector before b n
  pub as_many : length sectors ≡ taken
  pub whole : All (HasSize before.geometry.block_size) sectors
  pub state : after ≡ placed_run awaits_sector before b n sectors after.seat (with_taken before.space sectors)
  pub pool : TurnsFor taken (TakesAt opening taken sectors) (place_of before) (place_of after)

-- how many holes a run has, which have to be reserved
abbrev pub holes_in : RangeView → ℕ → ℕ → ℕ
holes_in r b n = count_in is_empty r b n

-- Each block of the run that had no sector took one: the holes were reserved first
pub record Preallocates (opening : PoolView) (before : RangeView) (b n : ℕ) (after : RangeView) (taken : ℕ) : Type 0 where
  pub sectors : List DeviceBlock
  pub count : taken ≡ count_in lacks_sector before b n
  pub as_many : length sectors ≡ taken
  pub whole : All (HasSize before.geometry.block_size) sectors
  pub state : after ≡ placed_run lacks_sector before b n sectors after.seat (with_taken (with_more before.space (holes_in before b n)) sectors)
  pub promised : PoolPlace
  pub reserved : TurnsFor (holes_in before b n) (ReservesAt opening (holes_in before b n) (Ok tt)) (place_of before) promised
  pub took : TurnsFor taken (TakesAt opening taken sectors) promised (place_of after)

-- the fault is the refusal where there is one; else there was no memory, or too little space for the holes
abbrev pub IsRefusedFor : ℕ → Option EventFault → EventFault → Type 0
IsRefusedFor holes (Some refusal) fault = fault ≡ refusal
IsRefusedFor holes None NoMemory = Unit {0}
IsRefusedFor holes None (NoSpace wanted found) = (wanted ≡ holes) × (found < holes)
IsRefusedFor holes None _ = ⊥

-- dirty blocks of a run of the range may take sectors, by a turn at its pool
pub record CanAttach {R : Type 0} (run : AttachRun R) (opening : RangeView) : Type 0 where
  pub lies : LiesAt opening run.block run.blocks
  pub pool : opening.seat.cell ≡ (pool_cell run.space.now).cell

-- The turn attached blocks, and this is its entry
pub record AttachMade {R : Type 0} (run : AttachRun R) (before after : RangeView) (claims : ClaimsView) (entry : Entry) (taken : ℕ) : Type 0 where
  pub made : attach_refusal before run.block run.blocks ≡ None
  pub attached : Attaches (pool_cell run.space.now).opening before run.block run.blocks after taken
  pub entry_is : entry ≡ record { caller = claims.caller; event = Attach run.block run.blocks; outcome = Took (pairs_taken awaits_sector before run.block run.blocks attached.sectors) }

-- The turn was refused, and nothing changed
pub record AttachRefused {R : Type 0} (run : AttachRun R) (before after : RangeView) (claims : ClaimsView) (entry : Entry) (fault : EventFault) : Type 0 where
  pub refused : fault ≡ unwrap_or (attach_refusal before run.block run.blocks) NoMemory
  pub unchanged : after ≡ before
  pub entry_is : entry ≡ record { caller = claims.caller; event = Attach run.block run.blocks; outcome = Refused fault }

-- The turn attached blocks, or was refused
pub record AttachTurned {R : Type 0} (run later : AttachRun R) (before after : RangeView) (claims left : ClaimsView) (answer : Result ℕ EventFault) (entry : Entry) : Type 0 where
  pub change : later ≡ run
  pub claims_are : left ≡ claims
  pub ok : IfOk answer (AttachMade run before after claims entry)
  pub err : IfErr answer (AttachRefused run before after claims entry)

-- blocks without a sector of a run of the range may take one, by turns at its pool
pub record CanPreallocate {R : Type 0} (run : PreallocateRun R) (opening : RangeView) : Type 0 where
  pub lies : LiesAt opening run.block run.blocks
  pub pool : opening.seat.cell ≡ (pool_cell run.space.now).cell

-- The turn preallocated blocks, and this is its entry
pub record PreallocateMade {R : Type 0} (run : PreallocateRun R) (before after : RangeView) (claims : ClaimsView) (entry : Entry) (taken : ℕ) : Type 0 where
  pub made : preallocate_refusal before run.block run.blocks ≡ None
  pub placed : Preallocates (pool_cell run.space.now).opening before run.block run.blocks after taken
  pub entry_is : entry ≡ record { caller = claims.caller; event = Preallocate run.block run.blocks; outcome = Took (pairs_taken lacks_sector before run.block run.blocks placed.sectors) }

-- The turn was refused, and no block changed
pub record PreallocateRefused {R : Type 0} (run : PreallocateRun R) (before after : RangeView) (claims : ClaimsView) (entry : Entry) (fault : EventFault) : Type 0 where
  pub refused : IsRefusedFor (holes_in before run.block run.blocks) (preallocate_refusal before run.block run.blocks) fault
  pub left : LeavesAlone (λ none. ReservesAt (pool_cell run.space.now).opening (holes_in before run.block run.blocks) (Err none)) fault before after
  pub entry_is : entry ≡ record { caller = claims.caller; event = Preallocate run.block run.blocks; outcome = Refused fault }

-- The turn preallocated blocks, or was refused
pub record PreallocateTurned {R : Type 0} (run later : PreallocateRun R) (before after : RangeView) (claims left : ClaimsView) (answer : Result ℕ EventFault) (entry : Entry) : Type 0 where
  pub change : later ≡ run
  pub claims_are : left ≡ claims
  pub ok : IfOk answer (PreallocateMade run before after claims entry)
  pub err : IfErr answer (PreallocateRefused run before after claims entry)
