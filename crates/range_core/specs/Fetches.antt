-- What a turn that copies bytes out of the page cache does.
use Rattle.std.specs.Prelude.{◌≡◌, ℕ, ◌-◌, None, List, Result, IfErr, OnErr, OnOk, unwrap_or}
use Rattle.iob_base.specs.declared.stamp.Tag.{Tag}
use Rattle.iov_iter.specs.IovView.{IovView, written_on}
use Rattle.range_core.specs.ByteRuns.{HasNext, IsInFolio, after_bytes, run_between, run_bytes}
use Rattle.range_core.specs.ClaimsView.{ClaimsView}
use Rattle.range_core.specs.Outcomes.{finished}
use Rattle.range_core.specs.Paging.{cached_at, fill_each}
use Rattle.range_core.specs.RangeTruth.{content_at}
use Rattle.range_core.specs.RangeView.{RangeView}
use Rattle.range_core.specs.Refusals.{fetch_refusal}
use Rattle.range_core.specs.declared.entry.Entry.{Entry}
use Rattle.range_core.specs.declared.entry.Event.TheVariants.{Fetch}
use Rattle.range_core.specs.declared.fault.EventFault.{EventFault}
use Rattle.range_core.specs.declared.fault.EventFault.TheVariants.{NoMemory}
use Rattle.range_core.specs.declared.parts.ByteRun.{ByteRun}
use Rattle.range_core.specs.declared.range.fetch.FetchRun.{FetchRun}

-- Bytes from one place up to another may be copied to an iov
pub record CanFetch (r : RangeView) (from to : ℕ) (v : IovView) : Type 0 where
  pub bytes : IsInFolio r from to
  pub room : HasNext v (to - from)

-- the bytes of a run, as the pages of a range's blocks have them
abbrev pub cached_run : RangeView → ByteRun → List ℕ
cached_run r run = run_bytes run (cached_at r.first r.cells)

-- the range after a fetch: each block met that had no page has one of zeros, and each has a stamp
abbrev pub after_fetch : RangeView → Tag → ℕ → ℕ → RangeView
after_fetch r by from to = let run = run_between r.geometry.block_size from to in after_bytes (fill_each run) r by run

-- the bytes of a range from one place up to another, as the pages of its blocks have them
abbrev pub fetched : RangeView → ℕ → ℕ → List ℕ
fetched r from to = cached_run r (run_between r.geometry.block_size from to)

-- the entry of a fetch
abbrev pub fetch_entry : ClaimsView → FetchRun → Result (Unit {0}) EventFault → Entry
fetch_entry claims change answer = record { caller = claims.caller; event = Fetch change.by change.from change.to; outcome = finished answer }

-- the bytes from one place up to another, as the history leaves them
abbrev pub replayed_run : RangeView → List Entry → ℕ → ℕ → List ℕ
replayed_run opening history from to = run_bytes (run_between opening.geometry.block_size from to) (λ b. content_at opening history (b - opening.first))

-- The turn copied the bytes as the history leaves them to the iov, gave pages of zeros and left its stamps, or it was refused and changed nothing
pub record Fetched (change later : FetchRun) (opening : RangeView) (history : List Entry) (before after : RangeView) (claims left : ClaimsView) (answer : Result (Unit {0}) EventFault) (entry : Entry) : Type 0 where
  pub by : later.by ≡ change.by
  pub from : later.from ≡ change.from
  pub to : later.to ≡ change.to
  pub same_iov : later.iov.ghost_name ≡ change.iov.ghost_name
  pub claims_are : left ≡ claims
  pub refused : IfErr answer (λ e. e ≡ unwrap_or (fetch_refusal before change.from change.to) NoMemory)
  pub made : OnOk answer (fetch_refusal before change.from change.to ≡ None)
  pub unchanged : OnErr answer (after ≡ before)
  pub nothing : OnErr answer (later.iov.now ≡ change.iov.now)
  pub state : OnOk answer (after ≡ after_fetch before change.by change.from change.to)
  pub bytes : OnOk answer (later.iov.now ≡ written_on (replayed_run opening history change.from change.to) change.iov.now)
  pub entry_is : entry ≡ fetch_entry claims change answer
