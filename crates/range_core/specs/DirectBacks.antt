-- What the return of blocks that were lent for a caller's own pages does.
use Rattle.std.specs.Prelude.{◌≡◌, ℕ, ◌+◌, ◌-◌, ◌<◌, Bool, true, false, ◌&&◌, ◌++◌, Option, Some, None, List, [], ◌∷◌, length, map, slice_get, All}
use Rattle.iob_base.specs.Parting.{IsBare, pages_of}
use Rattle.fault_device.specs.declared.lane.Done.{Done}
use Rattle.iob_base.specs.declared.part.Part.{Part}
use Rattle.iob_base.specs.declared.sector.Page.{Page}
use Rattle.iob_base.specs.declared.stamp.Op.{Op}
use Rattle.iob_base.specs.declared.stamp.Op.TheVariants.{Read, Write}
use Rattle.iob_base.specs.declared.stamp.Tag.{Tag}
use Rattle.io_model.specs.Contents.{Content}
use Rattle.io_model.specs.declared.file.Kind.{Kind}
use Rattle.io_model.specs.declared.file.Kind.TheVariants.{Hole}
use Rattle.range_core.specs.ClaimsView.{ClaimsView, released}
use Rattle.range_core.specs.EntryCounts.{is_write_back, one_where}
use Rattle.range_core.specs.EntryStamps.{direct_stamps}
use Rattle.range_core.specs.Kinds.{is_mapped, is_unwritten}
use Rattle.range_core.specs.Lends.{home_of, written_cell}
use Rattle.range_core.specs.OnRun.{on_each}
use Rattle.range_core.specs.RangeTruth.{content_at}
use Rattle.range_core.specs.RangeView.{RangeView}
use Rattle.range_core.specs.Returning.{ComesBack, MayComeBack}
use Rattle.range_core.specs.Spots.{bytes_of_part}
use Rattle.range_core.specs.declared.cell.Cell.{Cell}
use Rattle.range_core.specs.declared.entry.Entry.{Entry}
use Rattle.range_core.specs.declared.entry.Event.{Event}
use Rattle.range_core.specs.declared.entry.Event.TheVariants.{DirectBack, PartBack}
use Rattle.range_core.specs.declared.entry.Outcome.TheVariants.{Finished}
use Rattle.range_core.specs.declared.lending.Held.{Held}
use Rattle.range_core.specs.declared.lending.Lender.{Lender}
use Rattle.range_core.specs.declared.lending.Lender.TheVariants.{Reading, Writeback, Direct, Part as InPart}
use Rattle.range_core.specs.declared.lending.Lent.{Lent}
use Rattle.range_core.specs.declared.range.lend_direct.DirectBackRun.{DirectBackRun}

-- the kind of the first block that a claim names
abbrev pub kind_held : Option Held → Kind
kind_held None = Hole
kind_held (Some held) = held.kind

-- the pages of what a claim names, as they were lent
abbrev pub pages_held : Option Held → List Page
pages_held None = []
pages_held (Some held) = map (λ p. p.page) held.lent.value.parts

-- a block is mapped where a caller's page was written to it
abbrev pub marked_back : Op → Bool → Cell → Cell
marked_back Write false c = written_cell c
marked_back _ failed c = c

-- the k-th of the blocks that come back with these parts: it has its sector again, and is mapped where it was written
abbrev pub came_back : Op → Bool → List Part → ℕ → Cell → Cell
came_back op failed parts k c = marked_back op failed (home_of parts k c)

-- a write that failed has left something on the first of these blocks
abbrev pub lands : Op → Kind → Bool
lands Read kind = false
lands Write kind = is_mapped kind

-- the range after n blocks came back with these parts: each has its stamp, and the cookie rose where blocks of this kind were mapped
abbrev pub after_direct_back : RangeView → Tag → Op → Kind → Lent → Done → RangeView
after_direct_back r by op kind back done =
    let n = length back.parts in
    record r { cells = on_each (came_back op done.failed back.parts) 0 (back.block - r.first) n r.cells; log = r.log ++ direct_stamps by op back.block kind n done; cookie = r.cookie + one_where (is_unwritten kind && is_write_back op done.failed) }

-- a transfer leaves each page its number, and a write its bytes too
abbrev pub KeepsPages : Op → List Page → List Page → Type 0
KeepsPages Read lent back = map (λ p. p.number) back ≡ map (λ p. p.number) lent
KeepsPages Write lent back = back ≡ lent

-- what comes back
abbrev pub back_in : DirectBackRun → Lent
back_in change = lent_in change.back
  where
    lent_in : Option Lent → Lent
    lent_in None = record { ticket = 0; block = 0; parts = [] }
    lent_in (Some back) = back

-- what was lent is of this call and direction: blocks for a caller's own pages, or a block for a write of a part of it
abbrev pub IsLentTo : Tag → Op → Lender → Type 0
IsLentTo by op Reading = ⊥
IsLentTo by op Writeback = ⊥
IsLentTo by op (Direct tag way) = (tag ≡ by) × (way ≡ op)
IsLentTo by op (InPart tag from to) = (tag ≡ by) × (op ≡ Write)

-- What comes back to a range was so lent, and its blocks are all out on that claim
pub record ComesDirectly (r : RangeView) (claims : ClaimsView) (by : Tag) (op : Op) (back : Lent) (done : Done) : Type 0 where
  pub lender : Lender
  pub comes : ComesBack r claims lender op back done
  pub lent_to : IsLentTo by op lender

-- The turn may begin: what comes back was lent for the same call in the same direction
pub record ReadyToReturn (change : DirectBackRun) (opening : RangeView) (claims : ClaimsView) : Type 0 where
  pub back : Lent
  pub back_is : change.back ≡ Some back
  pub lender : Lender
  pub may : MayComeBack opening claims lender change.op back change.done
  pub lent_to : IsLentTo change.by change.op lender

-- the pages of mapped blocks that landed in a read have the contents of these blocks
abbrev pub ReadsContents : RangeView → List Entry → Op → Kind → ℕ → ℕ → List Page → Type 0
ReadsContents opening history Read kind block landed pages =
    (k : ℕ) (p : Page) → is_mapped kind ≡ true → k < landed → slice_get pages k ≡ Some p → p.bytes ≡ content_at opening history (block - opening.first + k)
ReadsContents opening history Write kind block landed pages = Unit {0}

-- a block is not uptodate
pub record IsNotUptodate (c : Cell) : Type 0 where
  pub page : c.page ≡ None
  pub clean : c.dirty ≡ false

-- the bytes of the first page that a claim names, as it was lent
abbrev pub first_bytes : List Page → Content
first_bytes [] = []
first_bytes (p ∷ pages) = p.bytes

-- the return of a loan, by what it was lent for: of a part of a block, it tells the bytes of that part alone
abbrev pub back_event : ℕ → Tag → Op → Lent → Option Held → Done → Lender → Event
back_event size by op back held done (InPart tag from to) =
    PartBack by back.ticket back.block (kind_held held) from to (bytes_of_part size from to back.block (first_bytes (pages_held held))) done
back_event size by op back held done _ = DirectBack by op back.ticket back.block (kind_held held) (map (λ p. p.bytes) (pages_held held)) done

-- what a claim was lent for; a seat without one has lent nothing in part
abbrev pub lender_held : Option Held → Lender
lender_held None = Reading
lender_held (Some held) = held.lender

-- the entry of a return to a range of blocks of this size
abbrev pub back_entry : ℕ → ClaimsView → DirectBackRun → Entry
back_entry size claims change = record {
  caller = claims.caller;
  event = back_event size change.by change.op (back_in change) claims.held change.done (lender_held claims.held);
  outcome = Finished;
}

-- What the turn did: the sectors are home, and the pages came back in order
pub record ReturnedDirectly (change later : DirectBackRun) (opening : RangeView) (history : List Entry) (before after : RangeView) (claims left : ClaimsView) (pages : List Part) (entry : Entry) : Type 0 where
  pub change_is : later ≡ record change { back = None }
  pub value : after ≡ after_direct_back before change.by change.op (kind_held claims.held) (back_in change) change.done
  pub cold : (k : ℕ) (c : Cell) → k < length (pages_of pages) → slice_get after.cells ((back_in change).block - after.first + k) ≡ Some c → IsNotUptodate c
  pub claims_are : left ≡ released claims
  pub pages_are : pages_of pages ≡ map (λ p. p.page) (back_in change).parts
  pub bare : All IsBare pages
  pub kept : KeepsPages change.op (pages_held claims.held) (pages_of pages)
  pub reads : ReadsContents opening history change.op (kind_held claims.held) (back_in change).block change.done.landed (pages_of pages)
  pub entry_is : entry ≡ back_entry before.geometry.block_size claims change
