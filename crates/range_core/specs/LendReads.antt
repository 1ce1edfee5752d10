-- What turns that read blocks into the page cache do.
use Rattle.std.specs.Prelude.{◌≡◌, ℕ, ◌+◌, ◌-◌, ◌<◌, ◌≤◌, Bool, ◌&&◌, true, false, Option, Some, None, All, List, [], ◌∷◌, length, drop, slice_get, unwrap_or}
use Rattle.iob_base.specs.declared.sector.Page.{Page}
use Rattle.iob_base.specs.declared.stamp.Mode.TheVariants.{Cached}
use Rattle.fault_device.specs.Transfer.{CanTransfer}
use Rattle.fault_device.specs.declared.lane.Done.{Done}
use Rattle.iob_base.specs.declared.part.Part.{Part}
use Rattle.io_model.specs.Kinds.{is_kind, kind_after}
use Rattle.io_model.specs.declared.file.Kind.{Kind}
use Rattle.range_core.specs.ClaimsView.{ClaimsView, released}
use Rattle.range_core.specs.Kinds.{is_mapped}
use Rattle.range_core.specs.Lends.{TakesHold, home_cell, lend_most, lent_of, parts_of, with_lent}
use Rattle.range_core.specs.Lookups.{first_kind}
use Rattle.range_core.specs.OnRun.{with_each}
use Rattle.range_core.specs.Pages.{IsCachePage}
use Rattle.range_core.specs.RangeView.{LiesAt, RangeView, cells_from}
use Rattle.range_core.specs.Refusals.{is_cold, lend_read_refusal}
use Rattle.range_core.specs.Runs.{leading}
use Rattle.range_core.specs.declared.cell.Cell.{Cell}
use Rattle.range_core.specs.declared.entry.Entry.{Entry}
use Rattle.range_core.specs.declared.entry.Event.TheVariants.{FillBack, LendRead}
use Rattle.range_core.specs.declared.entry.Outcome.{Outcome}
use Rattle.range_core.specs.declared.entry.Outcome.TheVariants.{Finished, Lending, Refused}
use Rattle.range_core.specs.declared.fault.EventFault.TheVariants.{NoMemory}
use Rattle.range_core.specs.declared.lending.Lender.TheVariants.{Reading}
use Rattle.range_core.specs.declared.lending.Lent.{Lent}
use Rattle.range_core.specs.declared.loan_answer.LendRefused.{LendRefused}
use Rattle.range_core.specs.declared.range.lend_read.FillBackRun.{FillBackRun}
use Rattle.range_core.specs.declared.range.lend_read.LendReadRun.{LendReadRun}

-- when a seat may ask for blocks to be read into the cache
pub record MayFill (r : RangeView) (claims : ClaimsView) (b n : ℕ) : Type 0 where
  pub cached : r.mode ≡ Cached
  pub lies : LiesAt r b n
  pub free : claims.held ≡ None

-- the same of a turn, which has an empty list for what is lent
pub record ReadyToFill (change : LendReadRun) (opening : RangeView) (claims : ClaimsView) : Type 0 where
  pub may : MayFill opening claims change.block change.blocks
  pub list : change.parts ≡ Some []

-- the i-th block after one of this kind is read together with it: it is mapped to the i-th sector after that one's, at home, and not uptodate
abbrev pub fills_with : Kind → ℕ → Cell → Bool
fills_with first i c = is_cold c && is_kind (kind_after first i) c.kind

-- of at most n blocks, how many are read together with the first
abbrev pub fill_run : List Cell → ℕ → ℕ
fill_run [] n = 0
fill_run (c ∷ cells) n = leading (fills_with c.kind) 0 (c ∷ cells) n

-- how many blocks from b on are lent for a read: the longest run of at most n that are read together, in one folio
abbrev pub fill_length : RangeView → ℕ → ℕ → ℕ
fill_length r b n = fill_run (cells_from r b) (lend_most r.geometry b n)

-- a block that has to be read from the device
pub record IsColdBlock (c : Cell) : Type 0 where
  pub mapped : is_mapped c.kind ≡ true
  pub home : c.away ≡ None
  pub page : c.page ≡ None

-- blocks of a list that are read together: 1 to 16, each cold, the sectors following each other
pub record IsColdRun (cells : List Cell) (low n : ℕ) : Type 0 where
  pub some : 0 < n
  pub few : n ≤ 16
  pub within : low + n ≤ length cells
  pub cold : (k : ℕ) (c : Cell) → k < n → slice_get cells (low + k) ≡ Some c → IsColdBlock c
  pub kinds : (k : ℕ) (c : Cell) → k < n → slice_get cells (low + k) ≡ Some c → kind_after (first_kind (drop low cells)) k ≡ c.kind

-- a range that lent the run
abbrev pub lent_cold : RangeView → ℕ → ℕ → RangeView
lent_cold r b n = with_lent Reading r b (fill_length r b n)

-- what is lent then, on the range's next ticket: the sectors of the run, each with a page of the cache that has a block's length and any bytes
pub record IsColdLoan (r : RangeView) (b n : ℕ) (lent : Lent) : Type 0 where
  pub pages : List Page
  pub lent_is : lent ≡ lent_of r.tickets b (parts_of (cells_from r b) pages)
  pub many : length pages ≡ fill_length r b n
  pub kept : All (IsCachePage r.geometry.block_size) pages

-- a block with a page, where there is one for it
abbrev pub paged_cell : Option Page → Cell → Cell
paged_cell None c = c
paged_cell (Some page) c = record c { page = Some page }

-- the k-th block, with the k-th of these pages
abbrev pub paged_of : List Page → ℕ → Cell → Cell
paged_of pages k c = paged_cell (slice_get pages k) c

-- a block that comes back from a read: where the read failed, it is at home as it was; else it also has the part's page
abbrev pub filled_cell : Bool → Option Part → Cell → Cell
filled_cell failed None c = c
filled_cell true (Some part) c = home_cell (Some part) c
filled_cell false (Some part) c = record (home_cell (Some part) c) { page = Some part.page }

-- the same of the k-th block that comes back with these parts
abbrev pub filled_of : Bool → List Part → ℕ → Cell → Cell
filled_of failed parts k c = filled_cell failed (slice_get parts k) c

-- the range after a read of these parts
abbrev pub after_fill_back : RangeView → Lent → Done → RangeView
after_fill_back r back done = with_each (filled_of done.failed back.parts) r back.block (length back.parts)

abbrev pub cold_entry : ClaimsView → LendReadRun → Outcome → Entry
cold_entry claims change outcome = record { caller = claims.caller; event = LendRead change.block change.blocks; outcome = outcome }

-- The turn lent blocks for a read, and they are blocks of the range as it was opened
pub record LentCold (opening : RangeView) (change later : LendReadRun) (before after : RangeView) (claims left : ClaimsView) (lent : Lent) (entry : Entry) : Type 0 where
  pub change_is : later ≡ record change { parts = None }
  pub made : lend_read_refusal before change.block ≡ None
  pub run : IsColdRun before.cells (change.block - before.first) (fill_length before change.block change.blocks)
  pub value : after ≡ lent_cold before change.block change.blocks
  pub loan : IsColdLoan before change.block change.blocks lent
  pub ready : CanTransfer lent.parts
  pub claims_are : TakesHold claims left lent Reading (first_kind (cells_from before change.block))
  pub entry_is : entry ≡ cold_entry claims change (Lending before.tickets (fill_length before change.block change.blocks))
  pub lies : LiesAt opening lent.block (length lent.parts)

-- The turn was refused, nothing changed, and the list came back empty
pub record RefusedCold (change later : LendReadRun) (before after : RangeView) (claims left : ClaimsView) (refused : LendRefused) (entry : Entry) : Type 0 where
  pub change_is : later ≡ record change { parts = None }
  pub fault_is : refused.fault ≡ unwrap_or (lend_read_refusal before change.block) NoMemory
  pub list : refused.parts ≡ []
  pub value : after ≡ before
  pub claims_are : left ≡ claims
  pub entry_is : entry ≡ cold_entry claims change (Refused refused.fault)

abbrev pub fill_entry : ClaimsView → Lent → Done → Entry
fill_entry claims back done = record { caller = claims.caller; event = FillBack back.ticket back.block (length back.parts) done; outcome = Finished }

-- The turn took blocks back from a read, and answered their list, empty
pub record Filled (change later : FillBackRun) (before after : RangeView) (claims left : ClaimsView) (parts : List Part) (entry : Entry) : Type 0 where
  pub back : Lent
  pub given : change.back ≡ Some back
  pub change_is : later ≡ record change { back = None }
  pub value : after ≡ after_fill_back before back change.done
  pub emptied : parts ≡ []
  pub claims_are : left ≡ released claims
  pub entry_is : entry ≡ fill_entry claims back change.done
