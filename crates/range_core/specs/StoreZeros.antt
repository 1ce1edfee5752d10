-- What a turn that lays zeros over blocks in the page cache does.
use Rattle.std.specs.Prelude.{◌≡◌, ℕ, ◌+◌, ◌-◌, ◌<◌, false, None, Some, List, Result, IfErr, OnErr, OnOk, IsSomeAnd, if◌then◌else◌, replicate, slice_get, unwrap_or}
use Rattle.iob_base.specs.declared.stamp.Tag.{Tag}
use Rattle.io_model.specs.Contents.{zeros}
use Rattle.io_model.specs.Effects.{overlay}
use Rattle.range_core.specs.BlockStates.{is_zero_already, state_of}
use Rattle.range_core.specs.BlockTruth.{IsWholePage}
use Rattle.range_core.specs.ByteRuns.{IsInFolio, after_bytes, run_between}
use Rattle.range_core.specs.ClaimsView.{ClaimsView}
use Rattle.range_core.specs.Outcomes.{finished}
use Rattle.range_core.specs.RangeView.{RangeView}
use Rattle.range_core.specs.Refusals.{store_refusal}
use Rattle.range_core.specs.KnownSamples.{WasGiven}
use Rattle.range_core.specs.Stores.{LieInExtent, dirtied, laid, stored}
use Rattle.range_core.specs.declared.cell.Cell.{Cell}
use Rattle.range_core.specs.declared.entry.Entry.{Entry}
use Rattle.range_core.specs.declared.entry.Event.TheVariants.{StoreZeros}
use Rattle.range_core.specs.declared.fault.EventFault.{EventFault}
use Rattle.range_core.specs.declared.fault.EventFault.TheVariants.{NoMemory}
use Rattle.range_core.specs.declared.parts.BlockPart.{BlockPart}
use Rattle.range_core.specs.declared.parts.ByteRun.{ByteRun}
use Rattle.range_core.specs.declared.range.store_zeros.StoreZerosRun.{StoreZerosRun}
use Rattle.range_core.specs.declared.sample.Sample.{Sample}

-- Zeros may be stored from one place up to another, where a sample of these blocks was taken
pub record CanStoreZeros (r : RangeView) (seen : Sample) (from to : ℕ) : Type 0 where
  pub bytes : IsInFolio r from to
  pub extent : LieInExtent r from to seen.extent

-- as many zeros as a run has bytes
abbrev pub zeros_of : ByteRun → List ℕ
zeros_of run = replicate (run.to - run.from) 0

-- a block that zeros would change
abbrev pub where_not_zero : (Cell → Cell) → Cell → Cell
where_not_zero f c = if is_zero_already (state_of c) then c else f c

-- such a block with zeros laid over a part of its page
abbrev pub cleared : BlockPart → Cell → Cell
cleared part c = where_not_zero (dirtied (overlay part.at (zeros part.length))) c

-- a block of a run with zeros laid over its part, and the same of a block that gets a page of zeros where it has none; a block that reads as zeros, at home and clean, stays as it is
abbrev pub laid_zeros : ByteRun → ℕ → Cell → Cell
laid_zeros run k c = where_not_zero (laid run (zeros_of run) k) c

abbrev pub zeroed : ByteRun → ℕ → Cell → Cell
zeroed run k c = where_not_zero (stored run (zeros_of run) k) c

-- the blocks of a run that zeros would change have whole pages
abbrev pub HavePagesForZeros : ByteRun → ℕ → List Cell → Type 0
HavePagesForZeros run first cells = (k : ℕ) (c : Cell) → k < run.blocks → slice_get cells (run.first - first + k) ≡ Some c → is_zero_already (state_of c) ≡ false → IsSomeAnd c.page (IsWholePage run.size)

-- the range after a store of zeros
abbrev pub after_zeros : RangeView → Tag → ℕ → ℕ → RangeView
after_zeros r by from to = let run = run_between r.geometry.block_size from to in after_bytes (zeroed run) r by run

-- the entry of a store of zeros
abbrev pub zero_entry : ClaimsView → StoreZerosRun → Result (Unit {0}) EventFault → Entry
zero_entry claims change answer = record { caller = claims.caller; event = StoreZeros change.by change.seen change.from change.to; outcome = finished answer }

-- Zeros may be stored at a turn of a seat that was given the sample
pub record MayStoreZeros (change : StoreZerosRun) (opening : RangeView) (seen : List Entry) : Type 0 where
  pub can : CanStoreZeros opening change.seen change.from change.to
  pub given : WasGiven change.seen seen

-- The turn laid zeros over the blocks met that they change, made these dirty and left its stamps, or it was refused and changed nothing
pub record StoredZeros (change later : StoreZerosRun) (before after : RangeView) (claims left : ClaimsView) (answer : Result (Unit {0}) EventFault) (entry : Entry) : Type 0 where
  pub same : later ≡ change
  pub claims_are : left ≡ claims
  pub refused : IfErr answer (λ e. e ≡ unwrap_or (store_refusal before change.seen change.from change.to) NoMemory)
  pub made : OnOk answer (store_refusal before change.seen change.from change.to ≡ None)
  pub unchanged : OnErr answer (after ≡ before)
  pub state : OnOk answer (after ≡ after_zeros before change.by change.from change.to)
  pub entry_is : entry ≡ zero_entry claims change answer
