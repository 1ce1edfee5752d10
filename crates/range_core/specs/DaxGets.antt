-- What a turn that reads bytes straight from the sectors of a file does.
use Rattle.std.specs.Prelude.{◌≡◌, ℕ, ◌+◌, ◌-◌, ◌/◌, ◌<◌, Option, Some, None, List, [], Result, All, IfErr, OnErr, OnOk, slice_get}
use Rattle.fault_device.specs.declared.lane.Done.{Done}
use Rattle.iob_base.specs.declared.stamp.Mode.TheVariants.{Dax}
use Rattle.iob_base.specs.declared.stamp.Tag.{Tag}
use Rattle.io_model.specs.Contents.{Content}
use Rattle.iov_iter.specs.IovView.{IovView, written_on}
use Rattle.range_core.specs.ByteRuns.{HasNext, run_between, run_bytes}
use Rattle.range_core.specs.ClaimsView.{ClaimsView}
use Rattle.range_core.specs.DirectNows.{IsReady, stored_bytes}
use Rattle.range_core.specs.EntryStamps.{stamps_met}
use Rattle.range_core.specs.Events.{with_stamps}
use Rattle.range_core.specs.Fetches.{replayed_run}
use Rattle.range_core.specs.Judges.{Judges, Passes, RefusesNow}
use Rattle.range_core.specs.Kinds.{is_mapped}
use Rattle.range_core.specs.Outcomes.{finished}
use Rattle.range_core.specs.RangeTruth.{IsUncached}
use Rattle.range_core.specs.RangeView.{LiesAt, RangeView}
use Rattle.range_core.specs.Refusals.{stale}
use Rattle.range_core.specs.KnownSamples.{IsKnown, WasGiven}
use Rattle.range_core.specs.Spots.{blocks_met}
use Rattle.range_core.specs.Stores.{LieInExtent}
use Rattle.range_core.specs.declared.cell.Cell.{Cell}
use Rattle.range_core.specs.declared.entry.Entry.{Entry}
use Rattle.range_core.specs.declared.entry.Event.TheVariants.{DaxGet}
use Rattle.range_core.specs.declared.fault.EventFault.{EventFault}
use Rattle.range_core.specs.declared.parts.ByteRun.{ByteRun}
use Rattle.range_core.specs.declared.range.dax_get.DaxGetRun.{DaxGetRun}
use Rattle.range_core.specs.declared.sample.Sample.{Sample}

-- Bytes from one place up to another lie in a range of a file that skips the page cache, in one extent of it
pub record IsThrough (r : RangeView) (seen : Sample) (from to : ℕ) : Type 0 where
  pub dax : r.mode ≡ Dax
  pub some : from < to
  pub lies : LiesAt r (from / r.geometry.block_size) (blocks_met r.geometry.block_size from to)
  pub extent : LieInExtent r from to seen.extent

-- What is asked of a read straight from the sectors: such bytes, room in the iov, a sample of the range, and blocks of which nothing is cached or lent
pub record CanGetDax (r : RangeView) (seen : Sample) (from to : ℕ) (v : IovView) : Type 0 where
  pub bytes : IsThrough r seen from to
  pub room : HasNext v (to - from)
  pub known : IsKnown r seen
  pub uncached : All IsUncached r.cells

-- each block of a run, of blocks the first of which has this number, is at home with the sector of its kind
abbrev pub AreHomeIn : ByteRun → ℕ → List Cell → Type 0
AreHomeIn run first cells = (k : ℕ) (c : Cell) → k < run.blocks → slice_get cells (run.first - first + k) ≡ Some c → IsReady run.size c

abbrev pub stored_of : ℕ → Option Cell → Content
stored_of size None = []
stored_of size (Some c) = stored_bytes size c

-- what the device has of block b, of blocks the first of which has this number
abbrev pub stored_at : ℕ → ℕ → List Cell → ℕ → Content
stored_at size first cells b = stored_of size (slice_get cells (b - first))

-- the bytes of a range from one place up to another, as the device has them
abbrev pub stored_run : RangeView → ℕ → ℕ → List ℕ
stored_run r from to = let size = r.geometry.block_size in run_bytes (run_between size from to) (stored_at size r.first r.cells)

-- the range after such a read: each block met has a stamp
abbrev pub after_dax_get : RangeView → Tag → ℕ → ℕ → RangeView
after_dax_get r by from to = with_stamps r (stamps_met r.geometry.block_size by from to)

-- What came of such a read, whatever judged it: the bytes as the device has them and a stamp on each block met, after one judgement where the blocks are mapped; or a refusal, which left all but the judge as it was
pub record AnswersGet {J : Type 0} (step : J → ℕ → Done → J → Type 0) (was now : J) (before : RangeView) (by : Tag) (seen : Sample) (from to : ℕ) (iov : IovView) (after : RangeView) (later : IovView) (answer : Result (Unit {0}) EventFault) : Type 0 where
  pub made : OnOk answer (stale before seen ≡ None)
  pub state : OnOk answer (after ≡ after_dax_get before by from to)
  pub bytes : OnOk answer (later ≡ written_on (stored_run before from to) iov)
  pub judged : Judges step (blocks_met before.geometry.block_size from to) was now
  pub passed : OnOk answer (Passes (is_mapped seen.extent.kind) judged.answer)
  pub refused : IfErr answer (RefusesNow (stale before seen) (is_mapped seen.extent.kind) judged.answer)
  pub unchanged : OnErr answer (after ≡ before)
  pub nothing : OnErr answer (later ≡ iov)

-- The turn may begin: a judgement may be asked for, and the event's conditions hold of the range as it was opened and of what the seat has seen
pub record MayGetDax {F : Type 0} (may : F → ℕ → Type 0) (change : DaxGetRun F) (opening : RangeView) (history : List Entry) : Type 0 where
  pub judge : (m : ℕ) → 0 < m → may change.judge m
  pub bytes : IsThrough opening change.seen change.from change.to
  pub room : HasNext change.iov.now (change.to - change.from)
  pub given : WasGiven change.seen history

abbrev pub dax_get_entry : ClaimsView → Tag → Sample → ℕ → ℕ → Result (Unit {0}) EventFault → Entry
dax_get_entry claims by seen from to answer = record { caller = claims.caller; event = DaxGet by seen from to; outcome = finished answer }

-- The turn gave the bytes as the history leaves them and left its stamps, or was refused, as the event answers
pub record GotDax {F : Type 0} (step : F → ℕ → Done → F → Type 0) (change : DaxGetRun F) (opening : RangeView) (history : List Entry) (before : RangeView) (claims : ClaimsView) (later : DaxGetRun F) (after : RangeView) (left : ClaimsView) (answer : Result (Unit {0}) EventFault) (entry : Entry) : Type 0 where
  pub by : later.by ≡ change.by
  pub seen : later.seen ≡ change.seen
  pub from : later.from ≡ change.from
  pub to : later.to ≡ change.to
  pub same_iov : later.iov.ghost_name ≡ change.iov.ghost_name
  pub claims_are : left ≡ claims
  pub answers : AnswersGet step change.judge later.judge before change.by change.seen change.from change.to change.iov.now after later.iov.now answer
  pub bytes : OnOk answer (later.iov.now ≡ written_on (replayed_run opening history change.from change.to) change.iov.now)
  pub entry_is : entry ≡ dax_get_entry claims change.by change.seen change.from change.to answer
