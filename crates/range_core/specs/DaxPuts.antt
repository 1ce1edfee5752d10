-- What a turn that writes bytes straight into the sectors of a file does.
use Rattle.std.specs.Prelude.{◌≡◌, ℕ, ◌+◌, ◌-◌, ◌/◌, ◌<◌, true, not, Option, Some, None, List, length, All, Result, Ok, Err, IfErr, IsSomeAnd, OnErr, OnOk, slice_get}
use Rattle.fault_device.specs.declared.lane.Done.{Done}
use Rattle.iob_base.specs.DeviceBlock.{DeviceBlock}
use Rattle.iob_base.specs.declared.stamp.Tag.{Tag}
use Rattle.iov_iter.specs.IovView.{IovView}
use Rattle.space_pool.specs.Claims.{with_more, with_taken}
use Rattle.space_pool.specs.Pool.{HasSize, PoolView, no_space}
use Rattle.space_pool.specs.Seats.{pool_cell}
use Rattle.space_pool.specs.declared.entry.PoolEntry.{PoolEntry}
use Rattle.turn_cell.specs.Views.{SeatView}
use Rattle.range_core.specs.Attaches.{pairs_taken}
use Rattle.range_core.specs.ByteRuns.{HasNext, run_between}
use Rattle.range_core.specs.ClaimsView.{ClaimsView}
use Rattle.range_core.specs.DaxPools.{GivesUp}
use Rattle.range_core.specs.DaxGets.{IsThrough}
use Rattle.range_core.specs.EntryCounts.{one_where}
use Rattle.range_core.specs.Events.{with_stamps}
use Rattle.range_core.specs.Judges.{Judges, Passes}
use Rattle.range_core.specs.Kinds.{is_mapped}
use Rattle.range_core.specs.OnRun.{with_each}
use Rattle.range_core.specs.Placing.{count_in, is_empty, placed_at}
use Rattle.range_core.specs.PoolTurns.{PoolPlace, ReservesAt, TakesAt, TurnsFor, at_seat, place_of}
use Rattle.range_core.specs.RangeTruth.{IsUncached}
use Rattle.range_core.specs.RangeView.{RangeView}
use Rattle.range_core.specs.Refusals.{dax_put_refusal}
use Rattle.range_core.specs.KnownSamples.{IsKnown, WasGiven}
use Rattle.range_core.specs.Space.{SpaceClaims}
use Rattle.range_core.specs.Spots.{blocks_met, overlaid}
use Rattle.range_core.specs.Stamps.{done_by, stamps_from}
use Rattle.range_core.specs.Stores.{next_bytes, past}
use Rattle.range_core.specs.Through.{made_mapped, through}
use Rattle.range_core.specs.declared.cell.Cell.{Cell}
use Rattle.range_core.specs.declared.entry.Entry.{Entry}
use Rattle.range_core.specs.declared.entry.Event.TheVariants.{DaxPut}
use Rattle.range_core.specs.declared.entry.Outcome.{Outcome}
use Rattle.range_core.specs.declared.entry.Outcome.TheVariants.{Refused, Took}
use Rattle.range_core.specs.declared.fault.EventFault.{EventFault}
use Rattle.range_core.specs.declared.fault.EventFault.TheVariants as fault
use Rattle.range_core.specs.declared.parts.ByteRun.{ByteRun}
use Rattle.range_core.specs.declared.range.dax_put.DaxPutRun.{DaxPutRun}
use Rattle.range_core.specs.declared.sample.Sample.{Sample}

-- What is asked of bytes written into sectors: an extent of a file that skips the page cache, so many bytes of an iov, a sample of the range, and blocks of which nothing is cached or lent
pub record CanPutDax (r : RangeView) (seen : Sample) (from to : ℕ) (v : IovView) : Type 0 where
  pub bytes : IsThrough r seen from to
  pub room : HasNext v (to - from)
  pub known : IsKnown r seen
  pub uncached : All IsUncached r.cells

-- how many of the blocks met are holes, which take sectors
abbrev pub holes_met : RangeView → ℕ → ℕ → ℕ
holes_met r from to = count_in is_empty r (from / r.geometry.block_size) (blocks_met r.geometry.block_size from to)

-- each block of a run, of blocks the first of which has this number, has a whole sector
abbrev pub AreFull : ByteRun → ℕ → List Cell → Type 0
AreFull run first cells = (k : ℕ) (c : Cell) → k < run.blocks → slice_get cells (run.first - first + k) ≡ Some c → IsSomeAnd c.sector (λ s. length s.bytes ≡ run.size)

-- a block of a run with its part of the bytes over its sector, which was made zeros where it was never written
abbrev pub put : ByteRun → List ℕ → ℕ → Cell → Cell
put run bytes k c = through (overlaid run.size run.from run.to bytes (run.first + k)) (made_mapped c)

-- the same of a block that takes a sector first where it is a hole
abbrev pub put_placed : ByteRun → List ℕ → ℕ → List Cell → List DeviceBlock → ℕ → Cell → Cell
put_placed run bytes low cells sectors k c = put run bytes k (placed_at is_empty low cells sectors k c)

-- the range once the bytes are in the sectors of the blocks met, of which holes took these: each block met has a stamp, and the cookie rose where the extent was not mapped
abbrev pub after_dax_put : RangeView → Tag → Sample → ℕ → ℕ → List ℕ → List DeviceBlock → SeatView PoolEntry → SpaceClaims → RangeView
after_dax_put r by seen from to bytes sectors seat space =
    let run = run_between r.geometry.block_size from to in
    record (with_stamps (with_each (put_placed run bytes (run.first - r.first) r.cells sectors) r run.first run.blocks) (stamps_from run.first run.blocks (done_by by))) { cookie = r.cookie + one_where (not (is_mapped seen.extent.kind)); seat = seat; space = space }

-- The holes met were reserved and took these sectors, and the bytes are in the sectors of the blocks met
pub record PutsDax (opening : PoolView) (before : RangeView) (by : Tag) (seen : Sample) (from to : ℕ) (bytes : List ℕ) (after : RangeView) : Type 0 where
  pub sectors : List DeviceBlock
  pub as_many : length sectors ≡ holes_met before from to
  pub whole : All (HasSize before.geometry.block_size) sectors
  pub state : after ≡ after_dax_put before by seen from to bytes sectors after.seat (with_taken (with_more before.space (holes_met before from to)) sectors)
  pub promised : PoolPlace
  pub reserved : TurnsFor (holes_met before from to) (ReservesAt opening (holes_met before from to) (Ok tt)) (place_of before) promised
  pub took : TurnsFor (holes_met before from to) (TakesAt opening (holes_met before from to) sectors) promised (place_of after)

-- why nothing was written: for what hinders; else for want of memory, or of space for so many holes, before any judgement; else for a judgement, which failed
abbrev pub RefusesPut : ℕ → Option EventFault → Option Done → EventFault → Type 0
RefusesPut holes (Some refusal) told e = (e ≡ refusal) × (told ≡ None)
RefusesPut holes None told fault.NoMemory = told ≡ None
RefusesPut holes None told (fault.NoSpace wanted found) = (wanted ≡ holes) × (found < holes) × (told ≡ None)
RefusesPut holes None told (fault.Poison done) = (done.failed ≡ true) × (told ≡ Some done)
RefusesPut holes None told _ = ⊥

-- what a refused write leaves: the range as it was, but for its seat where that had turns at the pool
abbrev pub LeavesPut : PoolView → ℕ → EventFault → RangeView → RangeView → Type 0
LeavesPut opening holes (fault.NoSpace wanted found) before after = (after ≡ at_seat before after.seat) × ReservesAt opening holes (Err (no_space wanted found)) (place_of before) (place_of after)
LeavesPut opening holes (fault.Poison done) before after = (after ≡ at_seat before after.seat) × GivesUp opening holes (place_of before) (place_of after)
LeavesPut opening holes _ before after = after ≡ before

-- What came of such a write, whatever judged it: the bytes are in the sectors of the blocks met, which are mapped and stamped, after one judgement of them; or a refusal, before which no byte moved
pub record AnswersPut {J : Type 0} (step : J → ℕ → Done → J → Type 0) (was now : J) (opening : PoolView) (before : RangeView) (by : Tag) (seen : Sample) (from to : ℕ) (iov : IovView) (after : RangeView) (later : IovView) (answer : Result (Unit {0}) EventFault) : Type 0 where
  pub made : OnOk answer (dax_put_refusal before seen ≡ None)
  pub state : OnOk answer (PutsDax opening before by seen from to (next_bytes iov (to - from)) after)
  pub moved : OnOk answer (later ≡ past iov (to - from))
  pub judged : Judges step (blocks_met before.geometry.block_size from to) was now
  pub passed : OnOk answer (Passes true judged.answer)
  pub refused : IfErr answer (RefusesPut (holes_met before from to) (dax_put_refusal before seen) judged.answer)
  pub unchanged : IfErr answer (λ e. LeavesPut opening (holes_met before from to) e before after)
  pub nothing : OnErr answer (later ≡ iov)

-- the bytes that such a turn has of its iov
abbrev pub put_bytes : {R F : Type 0} → DaxPutRun R F → List ℕ
put_bytes change = next_bytes change.iov.now (change.to - change.from)

-- The turn may begin: a judgement may be asked for, and the event's conditions hold of the range as it was opened, of its pool, and of what the seat has seen
pub record MayPutDax {R F : Type 0} (may : F → ℕ → Type 0) (change : DaxPutRun R F) (opening : RangeView) (history : List Entry) : Type 0 where
  pub judge : (m : ℕ) → 0 < m → may change.judge m
  pub bytes : IsThrough opening change.seen change.from change.to
  pub room : HasNext change.iov.now (change.to - change.from)
  pub given : WasGiven change.seen history
  pub pool : opening.seat.cell ≡ (pool_cell change.space.now).cell

-- the entry of such a turn
abbrev pub put_entry : {R F : Type 0} → ClaimsView → DaxPutRun R F → Outcome → Entry
put_entry claims change outcome = record { caller = claims.caller; event = DaxPut change.by change.seen change.from change.to (put_bytes change); outcome = outcome }

-- It came about, and the entry tells which sectors the holes took
pub record PutMade {R F : Type 0} (change : DaxPutRun R F) (before after : RangeView) (claims : ClaimsView) (entry : Entry) : Type 0 where
  pub puts : PutsDax (pool_cell change.space.now).opening before change.by change.seen change.from change.to (put_bytes change) after
  pub entry_is : entry ≡ put_entry claims change (Took (pairs_taken is_empty before (change.from / before.geometry.block_size) (blocks_met before.geometry.block_size change.from change.to) puts.sectors))

-- The turn wrote the iov's bytes into the sectors of the blocks met, or was refused, as the event answers
pub record PutDax {R F : Type 0} (step : F → ℕ → Done → F → Type 0) (change : DaxPutRun R F) (before : RangeView) (claims : ClaimsView) (later : DaxPutRun R F) (after : RangeView) (left : ClaimsView) (answer : Result (Unit {0}) EventFault) (entry : Entry) : Type 0 where
  pub rt : later.rt ≡ change.rt
  pub space : later.space ≡ change.space
  pub by : later.by ≡ change.by
  pub seen : later.seen ≡ change.seen
  pub from : later.from ≡ change.from
  pub to : later.to ≡ change.to
  pub same_iov : later.iov.ghost_name ≡ change.iov.ghost_name
  pub claims_are : left ≡ claims
  pub answers : AnswersPut step change.judge later.judge (pool_cell change.space.now).opening before change.by change.seen change.from change.to change.iov.now after later.iov.now answer
  pub ok : OnOk answer (PutMade change before after claims entry)
  pub err : IfErr answer (λ e. entry ≡ put_entry claims change (Refused e))
