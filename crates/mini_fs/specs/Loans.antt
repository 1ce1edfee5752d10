-- What a ticket carries, and what the turns did that lend on one and take back from one.
use Rattle.std.specs.Prelude.{◌≡◌, ℕ, Option, Some, None, Result, List, length, map, slice_get, MatchResult}
use Rattle.bio_pages.specs.declared.bio.Bio.{Bio}
use Rattle.iob_base.specs.Parting.{pages_of}
use Rattle.iob_base.specs.declared.part.Part.{Part}
use Rattle.iob_base.specs.declared.stamp.FileId.{FileId}
use Rattle.iob_base.specs.declared.stamp.Op.{Op}
use Rattle.iob_base.specs.declared.stamp.Tag.{Tag}
use Rattle.fault_device.specs.Transfer.{CanTransfer}
use Rattle.fault_device.specs.declared.lane.Done.{Done}
use Rattle.turn_cell.specs.Views.{CellView}
use Rattle.range_core.specs.ClaimsView.{ClaimsView}
use Rattle.range_core.specs.DirectBacks.{ReturnedDirectly}
use Rattle.range_core.specs.LendDirects.{TurnedToLend}
use Rattle.range_core.specs.LendParts.{TurnedToLendPart}
use Rattle.range_core.specs.LendReads.{Filled, LentCold, RefusedCold}
use Rattle.range_core.specs.LendWritebacks.{EndedWriteback, LentDirty, RefusedDirty}
use Rattle.range_core.specs.Lends.{lent_of}
use Rattle.range_core.specs.Pages.{zeroed_page}
use Rattle.range_core.specs.RangeView.{LiesAt, RangeView}
use Rattle.range_core.specs.declared.direct_answer.Direct.{Direct as Answer}
use Rattle.range_core.specs.declared.direct_answer.Direct.TheVariants.{Lent as LentOut, Zeros}
use Rattle.range_core.specs.declared.direct_answer.DirectRefused.{DirectRefused}
use Rattle.range_core.specs.declared.direct_answer.PartRefused.{PartRefused}
use Rattle.range_core.specs.declared.entry.Entry.{Entry}
use Rattle.range_core.specs.declared.lending.Held.{Held}
use Rattle.range_core.specs.declared.lending.Lender.{Lender}
use Rattle.range_core.specs.declared.lending.Lender.TheVariants.{Direct}
use Rattle.range_core.specs.declared.lending.Lent.{Lent}
use Rattle.range_core.specs.declared.loan_answer.LendRefused.{LendRefused}
use Rattle.range_core.specs.declared.loan_answer.Written.{Written}
use Rattle.range_core.specs.declared.range.lend_direct.DirectBackRun.{DirectBackRun}
use Rattle.range_core.specs.declared.range.lend_direct.LendDirectRun.{LendDirectRun}
use Rattle.range_core.specs.declared.range.lend_part.LendPartRun.{LendPartRun}
use Rattle.range_core.specs.declared.range.lend_read.FillBackRun.{FillBackRun}
use Rattle.range_core.specs.declared.range.lend_read.LendReadRun.{LendReadRun}
use Rattle.range_core.specs.declared.range.lend_writeback.LendWritebackRun.{LendWritebackRun}
use Rattle.range_core.specs.declared.range.lend_writeback.WrittenBackRun.{WrittenBackRun}
use Rattle.range_core.specs.declared.sample.Sample.{Sample}
use Rattle.mount_parts.specs.MountView.{MountView, stripe_at}
use Rattle.mini_fs.specs.TicketView.{TicketView}

-- these blocks are blocks of a stripe of the mount, as it was opened
abbrev pub LieInStripe : MountView → ℕ → ℕ → ℕ → Type 0
LieInStripe m stripe b n = (cell : CellView RangeView) → slice_get m.stripes stripe ≡ Some cell → LiesAt cell.opening b n

-- The ticket carries what was lent of a file, for this: blocks of its stripe, which one transfer can move
pub record IsLoaned (m : MountView) (file : FileId) (t : TicketView) (lent : Lent) (lender : Lender) : Type 0 where
  pub claim : Held
  pub held : t.held ≡ Some claim
  pub lent_is : claim.lent.value ≡ lent
  pub lender_is : claim.lender ≡ lender
  pub at : t.stripe ≡ stripe_at m file lent.block
  pub lies : LieInStripe m t.stripe lent.block (length lent.parts)
  pub ready : CanTransfer lent.parts

-- the ticket carries what was lent for a caller's own pages, and where zeros were answered it carries nothing
abbrev pub CarriesAnswer : MountView → FileId → TicketView → Tag → Op → Answer → Type 0
CarriesAnswer m file t by op (LentOut lent) = IsLoaned m file t lent (Direct by op)
CarriesAnswer m file t by op (Zeros pages) = t.held ≡ None

-- the pages that were handed in go out with what was lent, and where zeros were answered they are these pages, of as many zeros
abbrev pub AnswersPages : List Part → Answer → Type 0
AnswersPages pages (LentOut lent) = pages_of lent.parts ≡ pages_of pages
AnswersPages pages (Zeros zeros) = pages_of zeros ≡ map zeroed_page (pages_of pages)

-- the changes of these turns: what each is given, with the list or the loan that goes in, and without it when the turn is over
abbrev pub lend_read_run : ℕ → ℕ → Option (List Part) → LendReadRun
lend_read_run block blocks parts = record { block = block; blocks = blocks; parts = parts }

abbrev pub lend_writeback_run : ℕ → ℕ → Option (List Part) → LendWritebackRun
lend_writeback_run block blocks parts = record { block = block; blocks = blocks; parts = parts }

abbrev pub lend_direct_run : Tag → Sample → Op → ℕ → Option (List Part) → LendDirectRun
lend_direct_run by seen op block pages = record { by = by; seen = seen; op = op; block = block; pages = pages }

abbrev pub lend_part_run : Tag → Sample → ℕ → ℕ → Option (List Part) → LendPartRun
lend_part_run by seen from to page = record { by = by; seen = seen; from = from; to = to; page = page }

abbrev pub fill_back_run : Option Lent → Done → FillBackRun
fill_back_run back done = record { back = back; done = done }

abbrev pub written_back_run : Option Lent → Done → WrittenBackRun
written_back_run back done = record { back = back; done = done }

abbrev pub direct_back_run : Tag → Op → Option Lent → Done → DirectBackRun
direct_back_run by op back done = record { by = by; op = op; back = back; done = done }

-- a turn lent blocks for a read, or refused to
abbrev pub LendsRead : ℕ → ℕ → List Part → Result Lent LendRefused → RangeView → RangeView → ClaimsView → RangeView → ClaimsView → Entry → Type 0
LendsRead block blocks parts answer opening before claims after left entry =
    MatchResult answer
    (λ lent. LentCold opening (lend_read_run block blocks (Some parts)) (lend_read_run block blocks None) before after claims left lent entry)
    (λ refused. RefusedCold (lend_read_run block blocks (Some parts)) (lend_read_run block blocks None) before after claims left refused entry)

-- a turn lent dirty blocks for a write, or refused to
abbrev pub LendsWriteback : ℕ → ℕ → List Part → Result Lent LendRefused → RangeView → RangeView → ClaimsView → RangeView → ClaimsView → Entry → Type 0
LendsWriteback block blocks parts answer opening before claims after left entry =
    MatchResult answer
    (λ lent. LentDirty opening (lend_writeback_run block blocks (Some parts)) (lend_writeback_run block blocks None) before after claims left lent entry)
    (λ refused. RefusedDirty (lend_writeback_run block blocks (Some parts)) (lend_writeback_run block blocks None) before after claims left refused entry)

-- a turn lent blocks for a caller's own pages, or answered zeros, or refused to
abbrev pub LendsDirect : Tag → Sample → Op → ℕ → List Part → Result Answer DirectRefused → RangeView → List Entry → RangeView → ClaimsView → RangeView → ClaimsView → Entry → Type 0
LendsDirect by seen op block pages answer opening history before claims after left entry =
    TurnedToLend (lend_direct_run by seen op block (Some pages)) (lend_direct_run by seen op block None) opening history before after claims left answer entry

-- a turn lent a block for a write of a part of it, or refused to
abbrev pub LendsPart : Tag → Sample → ℕ → ℕ → List Part → Result Lent PartRefused → RangeView → List Entry → RangeView → ClaimsView → RangeView → ClaimsView → Entry → Type 0
LendsPart by seen from to page answer opening history before claims after left entry =
    TurnedToLendPart (lend_part_run by seen from to (Some page)) (lend_part_run by seen from to None) opening history before after claims left answer entry

-- a turn took blocks back from a read
abbrev pub FillsBack : Lent → Done → List Part → RangeView → ClaimsView → RangeView → ClaimsView → Entry → Type 0
FillsBack back done parts before claims after left entry =
    Filled (fill_back_run (Some back) done) (fill_back_run None done) before after claims left parts entry

-- a turn took blocks back from a write of their pages
abbrev pub EndsWriteback : Lent → Done → Written → RangeView → ClaimsView → RangeView → ClaimsView → Entry → Type 0
EndsWriteback back done answer before claims after left entry =
    EndedWriteback (written_back_run (Some back) done) (written_back_run None done) before after claims left answer entry

-- a turn took blocks back that were lent for a caller's own pages, or for a write of a part
abbrev pub EndsDirect : Tag → Op → Lent → Done → List Part → RangeView → List Entry → RangeView → ClaimsView → RangeView → ClaimsView → Entry → Type 0
EndsDirect by op back done pages opening history before claims after left entry =
    ReturnedDirectly (direct_back_run by op (Some back) done) (direct_back_run by op None done) opening history before after claims left pages entry

-- The bio goes with what was lent on its ticket, for this and in this direction; the loan has this number at its range
pub record CarriesLoan (m : MountView) (file : FileId) (lender : Lender) (op : Op) (number : ℕ) (b : Bio TicketView) : Type 0 where
  pub loan : IsLoaned m file b.ticket (lent_of number b.block b.parts) lender
  pub way : b.op ≡ op
