-- What a turn that reads a run of blocks past the page cache does.
use Rattle.std.specs.Prelude.{◌≡◌, ℕ, ◌+◌, ◌-◌, ◌<◌, Result, Ok, Err, Some, List, length, IfOk, slice_get}
use Rattle.iob_base.specs.Parting.{pages_of}
use Rattle.iob_base.specs.declared.sector.Page.{Page}
use Rattle.iob_base.specs.declared.stamp.Tag.{Tag}
use Rattle.fault_device.specs.declared.lane.Done.{Done}
use Rattle.range_core.specs.ClaimsView.{ClaimsView}
use Rattle.range_core.specs.DirectNows.{AnswersNow}
use Rattle.range_core.specs.RangeTruth.{content_at}
use Rattle.range_core.specs.RangeView.{RangeView}
use Rattle.range_core.specs.declared.entry.Entry.{Entry}
use Rattle.range_core.specs.declared.entry.Event.TheVariants.{DirectNow}
use Rattle.range_core.specs.declared.entry.Outcome.{Outcome}
use Rattle.range_core.specs.declared.entry.Outcome.TheVariants.{Counted, Refused}
use Rattle.range_core.specs.declared.fault.EventFault.{EventFault}
use Rattle.range_core.specs.declared.range.direct_now.DirectNowRun.{DirectNowRun}

-- how many blocks were read, or why none was
abbrev pub NowAnswer : Type 0
NowAnswer = Result ℕ EventFault

abbrev pub now_outcome : NowAnswer → Outcome
now_outcome (Ok n) = Counted n
now_outcome (Err fault) = Refused fault

abbrev pub now_entry : ClaimsView → Tag → ℕ → ℕ → NowAnswer → Entry
now_entry claims by block most answer = record { caller = claims.caller; event = DirectNow by block most; outcome = now_outcome answer }

-- the first n of these pages have the contents of n blocks from b on, as the history leaves them
abbrev pub HaveContents : RangeView → List Entry → ℕ → ℕ → List Page → Type 0
HaveContents opening history b n pages = (k : ℕ) (p : Page) → k < n → slice_get pages k ≡ Some p → p.bytes ≡ content_at opening history (b - opening.first + k)

-- The turn read the longest run that is at home and not dirty, stamped its blocks and gave their contents, or was refused, as the event answers
pub record ReadsNow {F : Type 0} (step : F → ℕ → Done → F → Type 0) (change : DirectNowRun F) (opening : RangeView) (history : List Entry) (before : RangeView) (claims : ClaimsView) (later : DirectNowRun F) (after : RangeView) (left : ClaimsView) (answer : NowAnswer) (entry : Entry) : Type 0 where
  pub by_stays : later.by ≡ change.by
  pub block_stays : later.block ≡ change.block
  pub pages_stay : later.pages.ghost_name ≡ change.pages.ghost_name
  pub claims_are : left ≡ claims
  pub answers : AnswersNow step change.judge later.judge before change.by change.block change.pages.now after later.pages.now answer
  pub contents : IfOk answer (λ n. HaveContents opening history change.block n (pages_of later.pages.now))
  pub entry_is : entry ≡ now_entry claims change.by change.block (length (pages_of change.pages.now)) answer
