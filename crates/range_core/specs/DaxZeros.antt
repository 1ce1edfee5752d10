-- What a turn that lays zeros over the sectors of a file does.
use Rattle.std.specs.Prelude.{◌≡◌, ℕ, ◌+◌, ◌<◌, List, All, None, Result, IfErr, OnErr, OnOk}
use Rattle.fault_device.specs.declared.lane.Done.{Done}
use Rattle.iob_base.specs.declared.stamp.Tag.{Tag}
use Rattle.io_model.specs.Contents.{zeros}
use Rattle.io_model.specs.Effects.{overlay}
use Rattle.range_core.specs.ByteRuns.{after_bytes, run_between}
use Rattle.range_core.specs.ClaimsView.{ClaimsView}
use Rattle.range_core.specs.DaxGets.{IsThrough}
use Rattle.range_core.specs.Judges.{Judges, Passes, RefusesNow}
use Rattle.range_core.specs.Kinds.{is_mapped}
use Rattle.range_core.specs.Outcomes.{finished}
use Rattle.range_core.specs.RangeTruth.{IsUncached}
use Rattle.range_core.specs.RangeView.{RangeView}
use Rattle.range_core.specs.Refusals.{stale}
use Rattle.range_core.specs.KnownSamples.{IsKnown, WasGiven}
use Rattle.range_core.specs.Spots.{blocks_met, overlaid}
use Rattle.range_core.specs.Through.{where_mapped}
use Rattle.range_core.specs.StoreZeros.{zeros_of}
use Rattle.range_core.specs.declared.cell.Cell.{Cell}
use Rattle.range_core.specs.declared.entry.Entry.{Entry}
use Rattle.range_core.specs.declared.entry.Event.TheVariants.{DaxZero}
use Rattle.range_core.specs.declared.fault.EventFault.{EventFault}
use Rattle.range_core.specs.declared.parts.BlockPart.{BlockPart}
use Rattle.range_core.specs.declared.parts.ByteRun.{ByteRun}
use Rattle.range_core.specs.declared.range.dax_zero.DaxZeroRun.{DaxZeroRun}
use Rattle.range_core.specs.declared.sample.Sample.{Sample}

-- What is asked of zeros laid over sectors: bytes in an extent of a file that skips the page cache, a sample of the range, and blocks of which nothing is cached or lent
pub record CanZeroDax (r : RangeView) (seen : Sample) (from to : ℕ) : Type 0 where
  pub bytes : IsThrough r seen from to
  pub known : IsKnown r seen
  pub uncached : All IsUncached r.cells

-- a mapped block with zeros over a part of its sector, and any other as it is
abbrev pub cleared_through : BlockPart → Cell → Cell
cleared_through part c = where_mapped (overlay part.at (zeros part.length)) c

-- a mapped block of a run with zeros over its part of the run, and any other as it is
abbrev pub zeroed_through : ByteRun → ℕ → Cell → Cell
zeroed_through run k c = where_mapped (overlaid run.size run.from run.to (zeros_of run) (run.first + k)) c

-- the range after it: mapped blocks have the zeros in their sectors, and each block met has a stamp
abbrev pub after_dax_zero : RangeView → Tag → ℕ → ℕ → RangeView
after_dax_zero r by from to = let run = run_between r.geometry.block_size from to in after_bytes (zeroed_through run) r by run

-- What came of such zeros, whatever judged them: mapped blocks have them and each block met has a stamp, after one judgement where the blocks are mapped; or a refusal, which left all but the judge as it was
pub record AnswersZero {J : Type 0} (step : J → ℕ → Done → J → Type 0) (was now : J) (before : RangeView) (by : Tag) (seen : Sample) (from to : ℕ) (after : RangeView) (answer : Result (Unit {0}) EventFault) : Type 0 where
  pub made : OnOk answer (stale before seen ≡ None)
  pub state : OnOk answer (after ≡ after_dax_zero before by from to)
  pub judged : Judges step (blocks_met before.geometry.block_size from to) was now
  pub passed : OnOk answer (Passes (is_mapped seen.extent.kind) judged.answer)
  pub refused : IfErr answer (RefusesNow (stale before seen) (is_mapped seen.extent.kind) judged.answer)
  pub unchanged : OnErr answer (after ≡ before)

-- The turn may begin: a judgement may be asked for, and the event's conditions hold of the range as it was opened and of what the seat has seen
pub record MayZeroDax {F : Type 0} (may : F → ℕ → Type 0) (change : DaxZeroRun F) (opening : RangeView) (history : List Entry) : Type 0 where
  pub judge : (m : ℕ) → 0 < m → may change.judge m
  pub bytes : IsThrough opening change.seen change.from change.to
  pub given : WasGiven change.seen history

abbrev pub dax_zero_entry : ClaimsView → Tag → Sample → ℕ → ℕ → Result (Unit {0}) EventFault → Entry
dax_zero_entry claims by seen from to answer = record { caller = claims.caller; event = DaxZero by seen from to; outcome = finished answer }

-- The turn laid zeros over the sectors of mapped blocks and left its stamps, or was refused, as the event answers
pub record ZeroedDax {F : Type 0} (step : F → ℕ → Done → F → Type 0) (change : DaxZeroRun F) (before : RangeView) (claims : ClaimsView) (later : DaxZeroRun F) (after : RangeView) (left : ClaimsView) (answer : Result (Unit {0}) EventFault) (entry : Entry) : Type 0 where
  pub by : later.by ≡ change.by
  pub seen : later.seen ≡ change.seen
  pub from : later.from ≡ change.from
  pub to : later.to ≡ change.to
  pub claims_are : left ≡ claims
  pub answers : AnswersZero step change.judge later.judge before change.by change.seen change.from change.to after answer
  pub entry_is : entry ≡ dax_zero_entry claims change.by change.seen change.from change.to answer
