-- What a turn that lays bytes over blocks in the page cache does.
use Rattle.std.specs.Prelude.{◌≡◌, ℕ, ◌+◌, ◌-◌, ◌/◌, ◌≤◌, true, false, Option, Some, None, List, Result, IfErr, OnErr, OnOk, drop, take, unwrap_or}
use Rattle.iob_base.specs.declared.sector.Page.{Page}
use Rattle.iob_base.specs.declared.stamp.Tag.{Tag}
use Rattle.io_model.specs.Contents.{Content}
use Rattle.io_model.specs.declared.file.Extent.{Extent}
use Rattle.iov_iter.specs.IovView.{IovView, moved_to}
use Rattle.range_core.specs.ByteRuns.{HasNext, IsInFolio, after_bytes, run_between}
use Rattle.range_core.specs.ClaimsView.{ClaimsView}
use Rattle.range_core.specs.Kinds.{is_hole}
use Rattle.range_core.specs.Outcomes.{finished}
use Rattle.range_core.specs.Paging.{filled}
use Rattle.range_core.specs.RangeView.{RangeView}
use Rattle.range_core.specs.Refusals.{store_refusal}
use Rattle.range_core.specs.KnownSamples.{WasGiven}
use Rattle.range_core.specs.Spots.{blocks_met, overlaid}
use Rattle.range_core.specs.declared.cell.Cell.{Cell}
use Rattle.range_core.specs.declared.entry.Entry.{Entry}
use Rattle.range_core.specs.declared.entry.Event.TheVariants.{Store}
use Rattle.range_core.specs.declared.fault.EventFault.{EventFault}
use Rattle.range_core.specs.declared.fault.EventFault.TheVariants.{NoMemory}
use Rattle.range_core.specs.declared.parts.ByteRun.{ByteRun}
use Rattle.range_core.specs.declared.range.store.StoreRun.{StoreRun}
use Rattle.range_core.specs.declared.sample.Sample.{Sample}

-- The blocks of a range that have bytes from one place up to another are blocks of an extent in it
pub record LieInExtent (r : RangeView) (from to : ℕ) (extent : Extent) : Type 0 where
  pub low : extent.block ≤ from / r.geometry.block_size
  pub high : from / r.geometry.block_size + blocks_met r.geometry.block_size from to ≤ extent.block + extent.length

-- Bytes of an iov may be stored from one place up to another, where a sample that has space for them was taken
pub record CanStore (r : RangeView) (seen : Sample) (from to : ℕ) (v : IovView) : Type 0 where
  pub bytes : IsInFolio r from to
  pub extent : LieInExtent r from to seen.extent
  pub space : is_hole seen.extent.kind ≡ false
  pub room : HasNext v (to - from)

-- the next n bytes of an iov, and the iov past them
abbrev pub next_bytes : IovView → ℕ → List ℕ
next_bytes v n = take n (drop v.place v.bytes)

abbrev pub past : IovView → ℕ → IovView
past v n = moved_to (v.place + n) v

-- a page with its bytes changed, where there is one
abbrev pub on_page : (Content → Content) → Option Page → Option Page
on_page f None = None
on_page f (Some p) = Some (record p { bytes = f p.bytes })

-- a block whose page was changed is dirty
abbrev pub dirtied : (Content → Content) → Cell → Cell
dirtied f c = record c { page = on_page f c.page; dirty = true }

-- a block of a run with its part of the bytes laid over its page
abbrev pub laid : ByteRun → List ℕ → ℕ → Cell → Cell
laid run bytes k c = dirtied (overlaid run.size run.from run.to bytes (run.first + k)) c

-- the same of a block that gets a page of zeros where it has none
abbrev pub stored : ByteRun → List ℕ → ℕ → Cell → Cell
stored run bytes k c = laid run bytes k (filled run.size c)

-- the range after a store: each block met has its part of the bytes in its page, is dirty, and has a stamp
abbrev pub after_store : RangeView → Tag → ℕ → ℕ → List ℕ → RangeView
after_store r by from to bytes = let run = run_between r.geometry.block_size from to in after_bytes (stored run bytes) r by run

-- the bytes that a store has of its iov
abbrev pub stored_bytes : StoreRun → List ℕ
stored_bytes change = next_bytes change.iov.now (change.to - change.from)

-- the entry of a store
abbrev pub store_entry : ClaimsView → StoreRun → Result (Unit {0}) EventFault → Entry
store_entry claims change answer =
    record { caller = claims.caller; event = Store change.by change.seen change.from change.to (stored_bytes change); outcome = finished answer }

-- A store may be made at a turn of a seat that was given the sample
pub record MayStore (change : StoreRun) (opening : RangeView) (seen : List Entry) : Type 0 where
  pub can : CanStore opening change.seen change.from change.to change.iov.now
  pub given : WasGiven change.seen seen

-- The turn laid the iov's bytes over the blocks met, made them dirty and left its stamps, or it was refused and changed nothing
pub record Stored (change later : StoreRun) (before after : RangeView) (claims left : ClaimsView) (answer : Result (Unit {0}) EventFault) (entry : Entry) : Type 0 where
  pub by : later.by ≡ change.by
  pub seen : later.seen ≡ change.seen
  pub from : later.from ≡ change.from
  pub to : later.to ≡ change.to
  pub same_iov : later.iov.ghost_name ≡ change.iov.ghost_name
  pub claims_are : left ≡ claims
  pub refused : IfErr answer (λ e. e ≡ unwrap_or (store_refusal before change.seen change.from change.to) NoMemory)
  pub made : OnOk answer (store_refusal before change.seen change.from change.to ≡ None)
  pub unchanged : OnErr answer (after ≡ before)
  pub nothing : OnErr answer (later.iov.now ≡ change.iov.now)
  pub state : OnOk answer (after ≡ after_store before change.by change.from change.to (stored_bytes change))
  pub moved : OnOk answer (later.iov.now ≡ past change.iov.now (change.to - change.from))
  pub entry_is : entry ≡ store_entry claims change answer
