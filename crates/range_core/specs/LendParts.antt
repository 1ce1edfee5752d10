-- What lending a block for a write of a part of it does.
use Rattle.std.specs.Prelude.{◌≡◌, ℕ, ◌-◌, ◌/◌, ◌<◌, true, Option, Some, None, IsSomeAnd, Result, Ok, Err, List, [], ◌∷◌, length, map, slice_get, All, unwrap_or, if◌then◌else◌}
use Rattle.iob_base.specs.Parting.{IsBare, pages_of}
use Rattle.iob_base.specs.declared.part.Part.{Part}
use Rattle.iob_base.specs.declared.sector.Page.{Page}
use Rattle.iob_base.specs.declared.stamp.Mode.TheVariants.{Cached}
use Rattle.iob_base.specs.declared.stamp.Tag.{Tag}
use Rattle.fault_device.specs.Transfer.{CanTransfer}
use Rattle.io_model.specs.Contents.{Content, zeros}
use Rattle.io_model.specs.Effects.{overlay}
use Rattle.range_core.specs.BlockTruth.{IsWholePage}
use Rattle.range_core.specs.ByteRuns.{part_at, part_bytes, run_between}
use Rattle.range_core.specs.ClaimsView.{ClaimsView}
use Rattle.range_core.specs.Kinds.{has_space, is_mapped}
use Rattle.range_core.specs.Lends.{TakesHold, lent_of, parts_of, with_lent}
use Rattle.range_core.specs.Lookups.{first_kind}
use Rattle.range_core.specs.Paging.{bytes_of}
use Rattle.range_core.specs.RangeTruth.{content_at}
use Rattle.range_core.specs.RangeView.{LiesAt, RangeView, cells_from}
use Rattle.range_core.specs.Refusals.{covers_in_part, lend_part_refusal}
use Rattle.range_core.specs.KnownSamples.{IsKnown, WasGiven}
use Rattle.range_core.specs.Spots.{blocks_met, bytes_of_part, overlaid}
use Rattle.range_core.specs.Stores.{LieInExtent}
use Rattle.range_core.specs.declared.cell.Cell.{Cell}
use Rattle.range_core.specs.declared.direct_answer.PartRefused.{PartRefused}
use Rattle.range_core.specs.declared.entry.Entry.{Entry}
use Rattle.range_core.specs.declared.entry.Event.TheVariants.{LendPart}
use Rattle.range_core.specs.declared.entry.Outcome.{Outcome}
use Rattle.range_core.specs.declared.entry.Outcome.TheVariants.{Lending, Refused}
use Rattle.range_core.specs.declared.fault.EventFault.TheVariants.{NoMemory}
use Rattle.range_core.specs.declared.lending.Lender.TheVariants.{Part as InPart}
use Rattle.range_core.specs.declared.lending.Lent.{Lent}
use Rattle.range_core.specs.declared.parts.BlockPart.{BlockPart}
use Rattle.range_core.specs.declared.parts.ByteRun.{ByteRun}
use Rattle.range_core.specs.declared.range.lend_part.LendPartRun.{LendPartRun}
use Rattle.range_core.specs.declared.sample.Sample.{Sample}

-- Bytes from one place up to another are a part of one block, of a cached range and of the sample's extent in it, which has space
pub record IsPartOfBlock (r : RangeView) (seen : Sample) (from to : ℕ) : Type 0 where
  pub cached : r.mode ≡ Cached
  pub some : from < to
  pub one : blocks_met r.geometry.block_size from to ≡ 1
  pub part : covers_in_part r.geometry.block_size from to (from / r.geometry.block_size) ≡ true
  pub lies : LiesAt r (from / r.geometry.block_size) (blocks_met r.geometry.block_size from to)
  pub extent : LieInExtent r from to seen.extent
  pub space : has_space seen.extent.kind ≡ true

-- What is asked of a loan of a part: that it is a part of one block, one whole page, and claims that hold nothing yet
pub record CanLendPart (r : RangeView) (claims : ClaimsView) (seen : Sample) (from to : ℕ) (pages : List Page) : Type 0 where
  pub bytes : IsPartOfBlock r seen from to
  pub one : length pages ≡ 1
  pub whole : All (IsWholePage r.geometry.block_size) pages
  pub known : IsKnown r seen
  pub free : claims.held ≡ None

-- a block that may be lent in part: at home, with space, and with a whole page where it is mapped
pub record IsOpenBlock (size : ℕ) (c : Cell) : Type 0 where
  pub home : c.away ≡ None
  pub space : has_space c.kind ≡ true
  pub page : is_mapped c.kind ≡ true → IsSomeAnd c.page (IsWholePage size)

-- the block of a run of bytes is such a one, and there is one whole page for it
pub record IsOpenPart (r : RangeView) (run : ByteRun) (pages : List Page) : Type 0 where
  pub alone : run.blocks ≡ 1
  pub block : (c : Cell) → slice_get r.cells (run.first - r.first) ≡ Some c → IsOpenBlock r.geometry.block_size c
  pub one : length pages ≡ 1
  pub whole : All (IsWholePage r.geometry.block_size) pages

-- what a block has around a part of it: the bytes of its page where it is mapped, and zeros where it was never written
abbrev pub around_in : ℕ → Cell → Content
around_in size c = if is_mapped c.kind then bytes_of c.page else zeros size

-- the same of the first of these blocks
abbrev pub around_first : ℕ → List Cell → Content
around_first size [] = zeros size
around_first size (c ∷ cells) = around_in size c

-- a page that keeps its bytes in a part of its block, with those of a content around
abbrev pub with_around : BlockPart → Content → Page → Page
with_around part around p = record p { bytes = overlay part.at (part_bytes part p.bytes) around }

-- the range with the one block of these bytes lent on its next ticket, without a page in the cache
abbrev pub part_lent : RangeView → Tag → ByteRun → RangeView
part_lent r by run = with_lent (InPart by run.from run.to) r run.first 1

-- these pages, with what the block of these bytes has around them
abbrev pub pages_around : RangeView → ByteRun → List Page → List Page
pages_around r run pages = map (with_around (part_at run run.first) (around_first r.geometry.block_size (cells_from r run.first))) pages

-- the sector of that block with this page
abbrev pub part_loan : RangeView → ByteRun → List Page → Lent
part_loan r run pages = lent_of r.tickets run.first (parts_of (cells_from r run.first) (pages_around r run pages))

-- the page that was handed in
abbrev pub page_in : LendPartRun → List Page
page_in change = items_of change.page
  where
    items_of : Option (List Part) → List Page
    items_of None = []
    items_of (Some pages) = pages_of pages

-- the bytes that a turn writes, as they are cut in a range
abbrev pub change_run : RangeView → LendPartRun → ByteRun
change_run r change = run_between r.geometry.block_size change.from change.to

-- The turn may begin: what the event asks, of the range as it was opened and of what the seat has seen
pub record ReadyToLendPart (change : LendPartRun) (opening : RangeView) (history : List Entry) (claims : ClaimsView) : Type 0 where
  pub page : List Part
  pub page_is : change.page ≡ Some page
  pub bytes : IsPartOfBlock opening change.seen change.from change.to
  pub one : length (pages_of page) ≡ 1
  pub whole : All (IsWholePage opening.geometry.block_size) (pages_of page)
  pub bare : All IsBare page
  pub given : WasGiven change.seen history
  pub free : claims.held ≡ None

abbrev pub part_entry : ClaimsView → LendPartRun → ℕ → Outcome → Entry
part_entry claims change block outcome =
    record { caller = claims.caller; event = LendPart change.by change.seen block change.from change.to; outcome = outcome }

-- a page has the content around the bytes of a run in a block
abbrev pub HasAround : ByteRun → ℕ → Content → Page → Type 0
HasAround run b content p = p.bytes ≡ overlaid run.size run.from run.to (bytes_of_part run.size run.from run.to b p.bytes) b content

-- The block was lent with the page, which has the replay around the part
pub record LentInPart (change : LendPartRun) (opening : RangeView) (history : List Entry) (before after : RangeView) (claims left : ClaimsView) (lent : Lent) (entry : Entry) : Type 0 where
  pub free : lend_part_refusal before change.seen (change_run before change).first ≡ None
  pub value : after ≡ part_lent before change.by (change_run before change)
  pub lent_is : lent ≡ part_loan before (change_run before change) (page_in change)
  pub ready : CanTransfer lent.parts
  pub claims_are : TakesHold claims left lent (InPart change.by change.from change.to) (first_kind (cells_from before (change_run before change).first))
  pub entry_is : entry ≡ part_entry claims change (change_run before change).first (Lending before.tickets 1)
  pub around : (k : ℕ) (p : Part) → slice_get lent.parts k ≡ Some p → HasAround (change_run opening change) lent.block (content_at opening history (lent.block - opening.first)) p.page
  pub lies : LiesAt opening lent.block (length lent.parts)

-- Nothing was lent, and the page came back
pub record NotLentInPart (change : LendPartRun) (before after : RangeView) (claims left : ClaimsView) (refused : PartRefused) (entry : Entry) : Type 0 where
  pub cause : refused.fault ≡ unwrap_or (lend_part_refusal before change.seen (change_run before change).first) NoMemory
  pub page : change.page ≡ Some refused.page
  pub value : after ≡ before
  pub claims_are : left ≡ claims
  pub entry_is : entry ≡ part_entry claims change (change_run before change).first (Refused refused.fault)

abbrev pub PartLentOrNot : LendPartRun → RangeView → List Entry → RangeView → RangeView → ClaimsView → ClaimsView → Result Lent PartRefused → Entry → Type 0
PartLentOrNot change opening history before after claims left (Ok lent) entry = LentInPart change opening history before after claims left lent entry
PartLentOrNot change opening history before after claims left (Err refused) entry = NotLentInPart change before after claims left refused entry

-- What the turn did; the page that was handed in is used up
pub record TurnedToLendPart (change later : LendPartRun) (opening : RangeView) (history : List Entry) (before after : RangeView) (claims left : ClaimsView) (answer : Result Lent PartRefused) (entry : Entry) : Type 0 where
  pub change_is : later ≡ record change { page = None }
  pub did : PartLentOrNot change opening history before after claims left answer entry
