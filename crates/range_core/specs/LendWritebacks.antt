-- What turns that write dirty blocks to the device do.
use Rattle.std.specs.Prelude.{◌≡◌, ◌≢◌, ℕ, ◌+◌, ◌-◌, ◌^◌, ◌<◌, ◌≤◌, Bool, ◌&&◌, not, true, false, min, if◌then◌else◌, Option, Some, None, is_none, IsTrue, IsSomeAnd, List, [], ◌∷◌, length, take, drop, map, slice_get, unwrap_or}
use Rattle.iob_base.specs.declared.sector.Page.{Page}
use Rattle.fault_device.specs.Transfer.{CanTransfer}
use Rattle.fault_device.specs.declared.lane.Done.{Done}
use Rattle.iob_base.specs.declared.part.Part.{Part}
use Rattle.io_model.specs.Kinds.{is_kind, kind_after}
use Rattle.io_model.specs.declared.file.Kind.{Kind}
use Rattle.io_model.specs.declared.file.Kind.TheVariants.{Hole}
use Rattle.range_core.specs.BlockTruth.{IsWholePage}
use Rattle.range_core.specs.ClaimsView.{ClaimsView, released}
use Rattle.range_core.specs.EntryCounts.{one_where}
use Rattle.range_core.specs.Kinds.{has_space, is_unwritten, written_kind}
use Rattle.range_core.specs.Lends.{TakesHold, home_cell, lend_most, lent_of, parts_of, with_lent}
use Rattle.range_core.specs.Lookups.{first_kind}
use Rattle.range_core.specs.OnRun.{on_each}
use Rattle.range_core.specs.Pages.{cache_page}
use Rattle.range_core.specs.RangeView.{LiesAt, RangeView, cells_from}
use Rattle.range_core.specs.Refusals.{lend_writeback_refusal}
use Rattle.range_core.specs.Runs.{leading}
use Rattle.range_core.specs.declared.cell.Cell.{Cell}
use Rattle.range_core.specs.declared.entry.Entry.{Entry}
use Rattle.range_core.specs.declared.entry.Event.TheVariants.{LendWriteback, WrittenBack}
use Rattle.range_core.specs.declared.entry.Outcome.{Outcome}
use Rattle.range_core.specs.declared.entry.Outcome.TheVariants.{Counted, Lending, Refused}
use Rattle.range_core.specs.declared.fault.EventFault.TheVariants.{NoMemory}
use Rattle.range_core.specs.declared.lending.Lender.TheVariants.{Writeback}
use Rattle.range_core.specs.declared.lending.Lent.{Lent}
use Rattle.range_core.specs.declared.loan_answer.LendRefused.{LendRefused}
use Rattle.range_core.specs.declared.loan_answer.Written.{Written}
use Rattle.range_core.specs.declared.range.lend_writeback.WrittenBackRun.{WrittenBackRun}
use Rattle.range_core.specs.declared.range.lend_writeback.LendWritebackRun.{LendWritebackRun}

-- when a seat may ask for dirty blocks to be written
pub record MayWrite (r : RangeView) (claims : ClaimsView) (b n : ℕ) : Type 0 where
  pub lies : LiesAt r b n
  pub free : claims.held ≡ None

-- the same of a turn, which has an empty list for what is lent
pub record ReadyToWrite (change : LendWritebackRun) (opening : RangeView) (claims : ClaimsView) : Type 0 where
  pub may : MayWrite opening claims change.block change.blocks
  pub list : change.parts ≡ Some []

-- a dirty block is uptodate, with a whole page, and no hole
abbrev pub IsWritable : ℕ → Cell → Type 0
IsWritable size c = c.dirty ≡ true → IsSomeAnd c.page (λ p. IsWholePage size p × (c.kind ≢ Hole))

-- the i-th block after one of this kind is written together with it: it is dirty, at home, and mapped or unwritten as that one is, with the i-th sector after that one's
abbrev pub writes_with : Kind → ℕ → Cell → Bool
writes_with first i c = c.dirty && (is_none c.away && is_kind (kind_after first i) c.kind)

-- of at most n blocks, how many are written together with the first
abbrev pub write_run : List Cell → ℕ → ℕ
write_run [] n = 0
write_run (c ∷ cells) n = leading (writes_with c.kind) 0 (c ∷ cells) n

-- how many blocks from b on are lent for a write: the longest run of at most n that are written together, in one folio
abbrev pub write_length : RangeView → ℕ → ℕ → ℕ
write_length r b n = write_run (cells_from r b) (lend_most r.geometry b n)

-- a block that has to be written to the device
pub record IsDirtyBlock (c : Cell) : Type 0 where
  pub dirty : c.dirty ≡ true
  pub home : c.away ≡ None
  pub space : IsTrue (has_space c.kind)

-- blocks of a list that are written together: 1 to 16, each dirty, the sectors following each other
pub record IsDirtyRun (cells : List Cell) (low n : ℕ) : Type 0 where
  pub some : 0 < n
  pub few : n ≤ 16
  pub within : low + n ≤ length cells
  pub dirty : (k : ℕ) (c : Cell) → k < n → slice_get cells (low + k) ≡ Some c → IsDirtyBlock c
  pub kinds : (k : ℕ) (c : Cell) → k < n → slice_get cells (low + k) ≡ Some c → kind_after (first_kind (drop low cells)) k ≡ c.kind

-- a snapshot of a block's page: a page of the cache with the same bytes
abbrev pub copied : Option Page → Page
copied None = cache_page []
copied (Some page) = cache_page page.bytes

abbrev pub page_copy : Cell → Page
page_copy c = copied c.page

-- the range, and what is lent: the sectors of the run with snapshots of its pages
abbrev pub lent_dirty : RangeView → ℕ → ℕ → RangeView
lent_dirty r b n = with_lent Writeback r b (write_length r b n)

abbrev pub dirty_loan : RangeView → ℕ → ℕ → Lent
dirty_loan r b n = lent_of r.tickets b (parts_of (cells_from r b) (map page_copy (take (write_length r b n) (cells_from r b))))

abbrev pub dirtied_cell : Cell → Cell
dirtied_cell c = record c { dirty = true }

-- a block that comes back from a write: where the write failed it is dirty again; else it is mapped, and dirty only where a store changed it meanwhile
abbrev pub ended_cell : Bool → Option Part → Cell → Cell
ended_cell failed None c = c
ended_cell true (Some part) c = record (home_cell (Some part) c) { dirty = true }
ended_cell false (Some part) c = record (home_cell (Some part) c) { kind = written_kind c.kind }

-- the same of the k-th block that comes back with these parts
abbrev pub ended_of : Bool → List Part → ℕ → Cell → Cell
ended_of failed parts k c = ended_cell failed (slice_get parts k) c

-- 1 where blocks of this kind were written and so change it
abbrev pub raise : Kind → Bool → ℕ
raise kind failed = one_where (is_unwritten kind && not failed)

-- the range after a write of these parts: its cookie rises where kinds changed, and its count of failed writebacks where the write failed, up to its end
abbrev pub written : RangeView → Lent → Done → RangeView
written r back done =
    record r {
      cells = on_each (ended_of done.failed back.parts) 0 (back.block - r.first) (length back.parts) r.cells;
      cookie = r.cookie + raise (first_kind (cells_from r back.block)) done.failed;
      errors = min (r.errors + one_where done.failed) (2 ^ 64 - 1);
    }

-- how many blocks were written
abbrev pub written_count : Lent → Done → ℕ
written_count back done = if done.failed then 0 else length back.parts

abbrev pub dirty_entry : ClaimsView → LendWritebackRun → Outcome → Entry
dirty_entry claims change outcome = record { caller = claims.caller; event = LendWriteback change.block change.blocks; outcome = outcome }

-- The turn lent blocks for a write, and they are blocks of the range as it was opened
pub record LentDirty (opening : RangeView) (change later : LendWritebackRun) (before after : RangeView) (claims left : ClaimsView) (lent : Lent) (entry : Entry) : Type 0 where
  pub change_is : later ≡ record change { parts = None }
  pub made : lend_writeback_refusal before change.block ≡ None
  pub run : IsDirtyRun before.cells (change.block - before.first) (write_length before change.block change.blocks)
  pub value : after ≡ lent_dirty before change.block change.blocks
  pub lent_is : lent ≡ dirty_loan before change.block change.blocks
  pub ready : CanTransfer lent.parts
  pub claims_are : TakesHold claims left lent Writeback (first_kind (cells_from before change.block))
  pub entry_is : entry ≡ dirty_entry claims change (Lending before.tickets (write_length before change.block change.blocks))
  pub lies : LiesAt opening lent.block (length lent.parts)

-- The turn was refused, nothing changed, and the list came back empty
pub record RefusedDirty (change later : LendWritebackRun) (before after : RangeView) (claims left : ClaimsView) (refused : LendRefused) (entry : Entry) : Type 0 where
  pub change_is : later ≡ record change { parts = None }
  pub fault_is : refused.fault ≡ unwrap_or (lend_writeback_refusal before change.block) NoMemory
  pub list : refused.parts ≡ []
  pub value : after ≡ before
  pub claims_are : left ≡ claims
  pub entry_is : entry ≡ dirty_entry claims change (Refused refused.fault)

abbrev pub written_entry : ClaimsView → Lent → Kind → Done → ℕ → Entry
written_entry claims back kind done n = record { caller = claims.caller; event = WrittenBack back.ticket back.block kind (length back.parts) done; outcome = Counted n }

-- The turn took blocks back from a write, and answered how many were written, and their list, empty
pub record EndedWriteback (change later : WrittenBackRun) (before after : RangeView) (claims left : ClaimsView) (answer : Written) (entry : Entry) : Type 0 where
  pub back : Lent
  pub given : change.back ≡ Some back
  pub change_is : later ≡ record change { back = None }
  pub value : after ≡ written before back change.done
  pub claims_are : left ≡ released claims
  pub count : answer.blocks ≡ written_count back change.done
  pub emptied : answer.parts ≡ []
  pub entry_is : entry ≡ written_entry claims back (first_kind (cells_from before back.block)) change.done answer.blocks
