-- What lending blocks for a caller's own pages does.
use Rattle.std.specs.Prelude.{◌≡◌, ℕ, ◌+◌, ◌-◌, ◌≤◌, ◌%◌, ◌^◌, Bool, true, Option, Some, None, Result, Ok, Err, List, [], length, map, slice_get, All, unwrap_or, if◌then◌else◌}
use Rattle.iob_base.specs.Parting.{IsBare, bare_parts, pages_of}
use Rattle.iob_base.specs.declared.part.Part.{Part}
use Rattle.iob_base.specs.declared.sector.Page.{Page}
use Rattle.iob_base.specs.declared.stamp.Mode.TheVariants.{Cached}
use Rattle.iob_base.specs.declared.stamp.Op.{Op}
use Rattle.iob_base.specs.declared.stamp.Op.TheVariants.{Read, Write}
use Rattle.iob_base.specs.declared.stamp.Tag.{Tag}
use Rattle.fault_device.specs.Transfer.{CanTransfer}
use Rattle.io_model.specs.declared.file.Kind.{Kind}
use Rattle.range_core.specs.BlockTruth.{IsWholePage}
use Rattle.range_core.specs.ClaimsView.{ClaimsView}
use Rattle.range_core.specs.Events.{with_stamps}
use Rattle.range_core.specs.Kinds.{has_space, is_mapped}
use Rattle.range_core.specs.Lends.{TakesHold, lent_cell, lent_of, parts_of}
use Rattle.range_core.specs.Lookups.{first_kind}
use Rattle.range_core.specs.OnRun.{with_run}
use Rattle.range_core.specs.Pages.{zeroed_page}
use Rattle.range_core.specs.RangeTruth.{content_at}
use Rattle.range_core.specs.RangeView.{LiesAt, RangeView, cells_from}
use Rattle.range_core.specs.Refusals.{lend_direct_refusal}
use Rattle.range_core.specs.KnownSamples.{IsKnown, WasGiven}
use Rattle.range_core.specs.Stamps.{done_by, stamps_from}
use Rattle.range_core.specs.declared.direct_answer.Direct.{Direct as Answer}
use Rattle.range_core.specs.declared.direct_answer.Direct.TheVariants.{Lent as LentOut, Zeros}
use Rattle.range_core.specs.declared.direct_answer.DirectRefused.{DirectRefused}
use Rattle.range_core.specs.declared.entry.Entry.{Entry}
use Rattle.range_core.specs.declared.entry.Event.TheVariants.{LendDirect}
use Rattle.range_core.specs.declared.entry.Outcome.{Outcome}
use Rattle.range_core.specs.declared.entry.Outcome.TheVariants.{Finished, Lending, Refused}
use Rattle.range_core.specs.declared.fault.EventFault.TheVariants.{NoMemory}
use Rattle.range_core.specs.declared.lending.Away.{Away}
use Rattle.range_core.specs.declared.lending.Lender.TheVariants.{Direct}
use Rattle.range_core.specs.declared.lending.Lent.{Lent}
use Rattle.range_core.specs.declared.range.lend_direct.LendDirectRun.{LendDirectRun}
use Rattle.range_core.specs.declared.sample.Sample.{Sample}

-- a write of blocks of this kind has sectors to go to
abbrev pub CanTake : Op → Kind → Type 0
CanTake Read kind = Unit {0}
CanTake Write kind = has_space kind ≡ true

-- What is asked of a loan for a caller's own pages: a cached file, blocks of the range and of the sample's extent in it, as many as there are whole pages, and claims that hold nothing yet
pub record CanLendDirect (r : RangeView) (claims : ClaimsView) (seen : Sample) (op : Op) (block : ℕ) (pages : List Page) : Type 0 where
  pub cached : r.mode ≡ Cached
  pub lies : LiesAt r block (length pages)
  pub whole : All (IsWholePage r.geometry.block_size) pages
  pub low : seen.extent.block ≤ block
  pub high : block + length pages ≤ seen.extent.block + seen.extent.length
  pub known : IsKnown r seen
  pub takes : CanTake op seen.extent.kind
  pub free : claims.held ≡ None

-- Blocks of this kind go out with the pages: for a read the mapped ones, since all others read as zeros
abbrev pub goes_out : Op → Kind → Bool
goes_out Read kind = is_mapped kind
goes_out Write kind = true

-- where a block goes that is lent for a caller's own page
abbrev pub away_direct : Tag → Op → ℕ → Away
away_direct by op ticket = record { ticket = ticket; lender = Direct by op }

-- the range with the n blocks from one on lent on its next ticket, without pages in the cache
abbrev pub direct_lent : RangeView → Tag → Op → ℕ → ℕ → RangeView
direct_lent r by op block n = record (with_run (lent_cell (away_direct by op r.tickets)) r block n) { tickets = (r.tickets + 1) % 2 ^ 64 }

-- the range with one stamp more of each of the n blocks from one on
abbrev pub zeros_given : RangeView → Tag → ℕ → ℕ → RangeView
zeros_given r by block n = with_stamps r (stamps_from block n (done_by by))

abbrev pub after_lend_direct : RangeView → Tag → Sample → Op → ℕ → ℕ → RangeView
after_lend_direct r by seen op block n = if goes_out op seen.extent.kind then direct_lent r by op block n else zeros_given r by block n

-- a part whose page has as many zeros as it had bytes
abbrev pub part_zeroed : Part → Part
part_zeroed p = record p { page = zeroed_page p.page }

-- the sectors of the blocks from one on with these pages, in order
abbrev pub direct_loan : RangeView → ℕ → List Page → Lent
direct_loan r block pages = lent_of r.tickets block (parts_of (cells_from r block) pages)

abbrev pub direct_answer : RangeView → Sample → Op → ℕ → List Page → Answer
direct_answer r seen op block pages =
    if goes_out op seen.extent.kind then LentOut (direct_loan r block pages) else Zeros (bare_parts (map zeroed_page pages))

-- what was lent can be transferred, and its blocks are of a kind that goes out
abbrev pub GoesOut : Op → Kind → Answer → Type 0
GoesOut op kind (LentOut lent) = CanTransfer lent.parts × (goes_out op kind ≡ true)
GoesOut op kind (Zeros pages) = Unit {0}

-- the seat claims what was lent to it, and where nothing was lent it claims what it did
abbrev pub ClaimsAnswer : ClaimsView → ClaimsView → Tag → Op → Kind → Answer → Type 0
ClaimsAnswer claims left by op kind (LentOut lent) = TakesHold claims left lent (Direct by op) kind
ClaimsAnswer claims left by op kind (Zeros pages) = left ≡ claims

-- the pages that were handed in
abbrev pub pages_in : LendDirectRun → List Page
pages_in change = items_of change.pages
  where
    items_of : Option (List Part) → List Page
    items_of None = []
    items_of (Some pages) = pages_of pages

-- The turn may begin: what the event asks, of the range as it was opened and of what the seat has seen
pub record ReadyToLend (change : LendDirectRun) (opening : RangeView) (history : List Entry) (claims : ClaimsView) : Type 0 where
  pub pages : List Part
  pub pages_are : change.pages ≡ Some pages
  pub cached : opening.mode ≡ Cached
  pub lies : LiesAt opening change.block (length (pages_of pages))
  pub whole : All (IsWholePage opening.geometry.block_size) (pages_of pages)
  pub bare : All IsBare pages
  pub low : change.seen.extent.block ≤ change.block
  pub high : change.block + length (pages_of pages) ≤ change.seen.extent.block + change.seen.extent.length
  pub given : WasGiven change.seen history
  pub takes : CanTake change.op change.seen.extent.kind
  pub free : claims.held ≡ None

abbrev pub lend_entry : ClaimsView → LendDirectRun → Outcome → Entry
lend_entry claims change outcome =
    record { caller = claims.caller; event = LendDirect change.by change.seen change.op change.block (length (pages_in change)); outcome = outcome }

abbrev pub lend_outcome : ℕ → ℕ → Answer → Outcome
lend_outcome ticket n (LentOut lent) = Lending ticket n
lend_outcome ticket n (Zeros pages) = Finished

-- the pages have the contents of their blocks, where they are answered
abbrev pub ReadsZeros : RangeView → List Entry → ℕ → Answer → Type 0
ReadsZeros opening history block (LentOut lent) = Unit {0}
ReadsZeros opening history block (Zeros pages) = (k : ℕ) (p : Page) → slice_get (pages_of pages) k ≡ Some p → p.bytes ≡ content_at opening history (block - opening.first + k)

-- what was lent are blocks of the range
abbrev pub AnswerLies : RangeView → Answer → Type 0
AnswerLies r (LentOut lent) = LiesAt r lent.block (length lent.parts)
AnswerLies r (Zeros pages) = Unit {0}

-- Blocks were lent with the pages, or the pages have the zeros that the blocks read as
pub record LentDirectly (change : LendDirectRun) (opening : RangeView) (history : List Entry) (before after : RangeView) (claims left : ClaimsView) (answer : Answer) (entry : Entry) : Type 0 where
  pub free : lend_direct_refusal before change.seen change.op change.block (length (pages_in change)) ≡ None
  pub value : after ≡ after_lend_direct before change.by change.seen change.op change.block (length (pages_in change))
  pub answer_is : answer ≡ direct_answer before change.seen change.op change.block (pages_in change)
  pub goes : GoesOut change.op (first_kind (cells_from before change.block)) answer
  pub claims_are : ClaimsAnswer claims left change.by change.op (first_kind (cells_from before change.block)) answer
  pub entry_is : entry ≡ lend_entry claims change (lend_outcome before.tickets (length (pages_in change)) answer)
  pub reads : ReadsZeros opening history change.block answer
  pub lies : AnswerLies opening answer

-- Nothing was lent, and the pages came back
pub record NotLentDirectly (change : LendDirectRun) (before after : RangeView) (claims left : ClaimsView) (refused : DirectRefused) (entry : Entry) : Type 0 where
  pub cause : refused.fault ≡ unwrap_or (lend_direct_refusal before change.seen change.op change.block (length (pages_in change))) NoMemory
  pub pages : change.pages ≡ Some refused.pages
  pub value : after ≡ before
  pub claims_are : left ≡ claims
  pub entry_is : entry ≡ lend_entry claims change (Refused refused.fault)

abbrev pub LentOrNot : LendDirectRun → RangeView → List Entry → RangeView → RangeView → ClaimsView → ClaimsView → Result Answer DirectRefused → Entry → Type 0
LentOrNot change opening history before after claims left (Ok answer) entry = LentDirectly change opening history before after claims left answer entry
LentOrNot change opening history before after claims left (Err refused) entry = NotLentDirectly change before after claims left refused entry

-- What the turn did; the pages that were handed in are used up
pub record TurnedToLend (change later : LendDirectRun) (opening : RangeView) (history : List Entry) (before after : RangeView) (claims left : ClaimsView) (answer : Result Answer DirectRefused) (entry : Entry) : Type 0 where
  pub change_is : later ≡ record change { pages = None }
  pub did : LentOrNot change opening history before after claims left answer entry
