-- What a turn of a pass does that a lane judges: blocks read past the page cache, and bytes that go straight to and from the sectors of a file that has none.
use Rattle.std.specs.Prelude.{◌≡◌, ℕ, ◌-◌, ◌/◌, List, length, Result, IfErr, IfOk, OnOk}
use Rattle.fault_device.specs.LaneView.{LaneView}
use Rattle.iob_base.specs.Parting.{pages_of}
use Rattle.iob_base.specs.declared.part.Part.{Part}
use Rattle.iob_base.specs.declared.stamp.Tag.{Tag}
use Rattle.iov_iter.specs.IovView.{IovView, written_on}
use Rattle.space_pool.specs.Pool.{PoolView}
use Rattle.range_core.specs.Attaches.{pairs_taken}
use Rattle.range_core.specs.DaxGets.{AnswersGet}
use Rattle.range_core.specs.DaxPuts.{AnswersPut, PutsDax}
use Rattle.range_core.specs.DaxZeros.{AnswersZero}
use Rattle.range_core.specs.DirectNows.{AnswersNow}
use Rattle.range_core.specs.DirectNowTurns.{HaveContents, now_outcome}
use Rattle.range_core.specs.Fetches.{replayed_run}
use Rattle.range_core.specs.Judges.{AsksLane}
use Rattle.range_core.specs.Outcomes.{finished}
use Rattle.range_core.specs.Placing.{is_empty}
use Rattle.range_core.specs.RangeView.{RangeView}
use Rattle.range_core.specs.Spots.{blocks_met}
use Rattle.range_core.specs.Stores.{next_bytes}
use Rattle.range_core.specs.declared.entry.Entry.{Entry}
use Rattle.range_core.specs.declared.entry.Event.TheVariants.{DaxGet, DaxPut, DaxZero, DirectNow}
use Rattle.range_core.specs.declared.entry.Outcome.TheVariants.{Refused, Took}
use Rattle.range_core.specs.declared.fault.EventFault.{EventFault}
use Rattle.range_core.specs.declared.sample.Sample.{Sample}
use Rattle.mini_fs.specs.PageTurns.{entry_by}

-- The turn read blocks into the first pages as the history leaves them, with at most one judgement of the lane, or was refused, as the event answers
pub record ReadNowOn (was now : LaneView) (by : Tag) (b : ℕ) (pages later : List Part) (opening : RangeView) (history : List Entry) (before after : RangeView) (caller : ℕ) (answer : Result ℕ EventFault) (entry : Entry) : Type 0 where
  pub answers : AnswersNow AsksLane was now before by b pages after later answer
  pub contents : IfOk answer (λ n. HaveContents opening history b n (pages_of later))
  pub entry_is : entry ≡ entry_by caller (DirectNow by b (length (pages_of pages))) (now_outcome answer)

-- The turn copied bytes from sectors to an iov as the history leaves them, with at most one judgement of the lane, or was refused, as the event answers
pub record GotOn (was now : LaneView) (by : Tag) (seen : Sample) (from to : ℕ) (iov later : IovView) (opening : RangeView) (history : List Entry) (before after : RangeView) (caller : ℕ) (answer : Result (Unit {0}) EventFault) (entry : Entry) : Type 0 where
  pub answers : AnswersGet AsksLane was now before by seen from to iov after later answer
  pub bytes : OnOk answer (later ≡ written_on (replayed_run opening history from to) iov)
  pub entry_is : entry ≡ entry_by caller (DaxGet by seen from to) (finished answer)

-- The bytes are in the sectors of the blocks met, and the entry tells which sectors the holes among them took
pub record PutAt (pool : PoolView) (by : Tag) (seen : Sample) (from to : ℕ) (bytes : List ℕ) (before after : RangeView) (caller : ℕ) (entry : Entry) : Type 0 where
  pub puts : PutsDax pool before by seen from to bytes after
  pub entry_is : entry ≡ entry_by caller (DaxPut by seen from to bytes) (Took (pairs_taken is_empty before (from / before.geometry.block_size) (blocks_met before.geometry.block_size from to) puts.sectors))

-- The turn laid an iov's next bytes over sectors, with at most one judgement of the lane and by turns at a pool that was opened so, or was refused, as the event answers
pub record PutOn (was now : LaneView) (pool : PoolView) (by : Tag) (seen : Sample) (from to : ℕ) (iov later : IovView) (before after : RangeView) (caller : ℕ) (answer : Result (Unit {0}) EventFault) (entry : Entry) : Type 0 where
  pub answers : AnswersPut AsksLane was now pool before by seen from to iov after later answer
  pub ok : OnOk answer (PutAt pool by seen from to (next_bytes iov (to - from)) before after caller entry)
  pub err : IfErr answer (λ e. entry ≡ entry_by caller (DaxPut by seen from to (next_bytes iov (to - from))) (Refused e))

-- The turn laid zeros over the sectors of mapped blocks, with at most one judgement of the lane, or was refused, as the event answers
pub record ZeroedOn (was now : LaneView) (by : Tag) (seen : Sample) (from to : ℕ) (before after : RangeView) (caller : ℕ) (answer : Result (Unit {0}) EventFault) (entry : Entry) : Type 0 where
  pub answers : AnswersZero AsksLane was now before by seen from to after answer
  pub entry_is : entry ≡ entry_by caller (DaxZero by seen from to) (finished answer)
