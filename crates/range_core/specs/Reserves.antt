-- What a turn that promises space to holes does, and one that takes such promises back.
use Rattle.std.specs.Prelude.{◌≡◌, ℕ, ◌+◌, ◌<◌, ◌≤◌, nat_lt, List, None, Result, Ok, Err, IfOk, IfErr, unwrap_or, if◌then◌else◌}
use Rattle.iob_base.specs.declared.stamp.Mode.TheVariants.{Cached}
use Rattle.io_model.specs.declared.file.Kind.TheVariants.{Delalloc, Hole}
use Rattle.space_pool.specs.Claims.{with_fewer, with_more}
use Rattle.space_pool.specs.Pool.{PoolView}
use Rattle.space_pool.specs.Seats.{pool_cell}
use Rattle.space_pool.specs.declared.entry.PoolEntry.{PoolEntry}
use Rattle.turn_cell.specs.Views.{SeatView}
use Rattle.range_core.specs.ClaimsView.{ClaimsView}
use Rattle.range_core.specs.EntryCounts.{one_where}
use Rattle.range_core.specs.OnRun.{with_run}
use Rattle.range_core.specs.Placing.{count_in, is_unused}
use Rattle.range_core.specs.PoolTurns.{LeavesAlone, ReservesSomeAt, TurnsFor, UnreservesAt, place_of}
use Rattle.range_core.specs.RangeView.{LiesAt, RangeView}
use Rattle.range_core.specs.Refusals.{reserve_refusal}
use Rattle.range_core.specs.KnownSamples.{WasGiven}
use Rattle.range_core.specs.declared.cell.Cell.{Cell}
use Rattle.range_core.specs.declared.entry.Entry.{Entry}
use Rattle.range_core.specs.declared.entry.Event.TheVariants.{Reserve, Unreserve}
use Rattle.range_core.specs.declared.entry.Outcome.{Outcome}
use Rattle.range_core.specs.declared.entry.Outcome.TheVariants.{Counted, Refused, Sampled}
use Rattle.range_core.specs.declared.fault.EventFault.{EventFault}
use Rattle.range_core.specs.declared.fault.EventFault.TheVariants as fault
use Rattle.range_core.specs.declared.range.reserve.ReserveRun.{ReserveRun}
use Rattle.range_core.specs.declared.range.reserve.UnreserveRun.{UnreserveRun}
use Rattle.range_core.specs.declared.sample.Sample.{Sample}
use Rattle.range_core.specs.Samples.{SampleLies}

-- Space may be promised to the first n blocks of a sample: they are a hole, and blocks of a cached range
pub record AsksHoles (r : RangeView) (seen : Sample) (n : ℕ) : Type 0 where
  pub mode : r.mode ≡ Cached
  pub hole : seen.extent.kind ≡ Hole
  pub enough : n ≤ seen.extent.length
  pub inside : LiesAt r seen.extent.block n

-- space is promised to a block
abbrev pub promised_cell : Cell → Cell
promised_cell c = record c { kind = Delalloc }

-- the first m blocks of a sample after space was promised to them, where the seat at the pool is this one then
abbrev pub reserved_run : RangeView → Sample → ℕ → SeatView PoolEntry → RangeView
reserved_run r seen m seat = record (with_run promised_cell r seen.extent.block m) { cookie = r.cookie + 1; seat = seat; space = with_more r.space m }

-- the sample of these blocks
abbrev pub reserved_sample : RangeView → Sample → ℕ → Sample
reserved_sample r seen m = record { cookie = r.cookie + 1; errors = r.errors; extent = record { block = seen.extent.block; length = m; kind = Delalloc } }

-- what it is refused for: as the range says, or since no sector was unreserved
abbrev pub reserve_fault : RangeView → Sample → ℕ → EventFault
reserve_fault r seen n = unwrap_or (reserve_refusal r seen) (fault.NoSpace n 0)

-- Space was promised to as many of the first n blocks of a sample as there were sectors for, and this is the sample of them
pub record Reserves (opening : PoolView) (before : RangeView) (seen : Sample) (n : ℕ) (after : RangeView) (sample : Sample) : Type 0 where
  pub made : reserve_refusal before seen ≡ None
  pub some : 0 < sample.extent.length
  pub few : sample.extent.length ≤ n
  pub sample_is : sample ≡ reserved_sample before seen sample.extent.length
  pub state : after ≡ reserved_run before seen sample.extent.length after.seat
  pub pool : ReservesSomeAt opening n (Ok sample.extent.length) (place_of before) (place_of after)

-- The promise was refused, and no block changed
pub record RefusesReserve (opening : PoolView) (before : RangeView) (seen : Sample) (n : ℕ) (after : RangeView) (fault : EventFault) : Type 0 where
  pub is : fault ≡ reserve_fault before seen n
  pub left : LeavesAlone (λ none. ReservesSomeAt opening n (Err none)) fault before after

-- a block to which space was promised and that has nothing to write is a hole without a page, and any other is as it was
abbrev pub unpromised : Cell → Cell
unpromised c = if is_unused c then record c { kind = Hole; page = None } else c

-- a run of blocks after such promises were taken back, where the seat at the pool is this one then
abbrev pub unreserved_run : RangeView → ℕ → ℕ → SeatView PoolEntry → RangeView
unreserved_run r b n seat = record (with_run unpromised r b n) { cookie = r.cookie + one_where (nat_lt 0 (count_in is_unused r b n)); seat = seat; space = with_fewer r.space (count_in is_unused r b n) }

-- what a promise of space came to
abbrev pub reserve_outcome : Result Sample EventFault → Outcome
reserve_outcome (Ok sample) = Sampled sample
reserve_outcome (Err fault) = Refused fault

-- such a turn may begin: its sample is one that the seat has seen, and its pool is that of the range
pub record CanReserve {R : Type 0} (run : ReserveRun R) (opening : RangeView) (seen : List Entry) : Type 0 where
  pub holes : AsksHoles opening run.seen run.blocks
  pub given : WasGiven run.seen seen
  pub pool : opening.seat.cell ≡ (pool_cell run.space.now).cell

-- The turn promised space to holes, or was refused
pub record ReserveTurned {R : Type 0} (opening : RangeView) (run later : ReserveRun R) (before after : RangeView) (claims left : ClaimsView) (answer : Result Sample EventFault) (entry : Entry) : Type 0 where
  pub change : later ≡ run
  pub claims_are : left ≡ claims
  pub ok : IfOk answer (Reserves (pool_cell run.space.now).opening before run.seen run.blocks after)
  pub err : IfErr answer (RefusesReserve (pool_cell run.space.now).opening before run.seen run.blocks after)
  pub entry_is : entry ≡ record { caller = claims.caller; event = Reserve run.seen run.blocks; outcome = reserve_outcome answer }
  pub lies : IfOk answer (SampleLies opening)

-- promises may be taken back from a run of the range, by a turn at its pool
pub record CanUnreserve {R : Type 0} (run : UnreserveRun R) (opening : RangeView) : Type 0 where
  pub lies : LiesAt opening run.block run.blocks
  pub pool : opening.seat.cell ≡ (pool_cell run.space.now).cell

-- The turn took promises back, and answered how many
pub record UnreserveTurned {R : Type 0} (run later : UnreserveRun R) (before after : RangeView) (claims left : ClaimsView) (n : ℕ) (entry : Entry) : Type 0 where
  pub change : later ≡ run
  pub claims_are : left ≡ claims
  pub count : n ≡ count_in is_unused before run.block run.blocks
  pub state : after ≡ unreserved_run before run.block run.blocks after.seat
  pub pool : TurnsFor n (UnreservesAt (pool_cell run.space.now).opening n) (place_of before) (place_of after)
  pub entry_is : entry ≡ record { caller = claims.caller; event = Unreserve run.block run.blocks; outcome = Counted n }
