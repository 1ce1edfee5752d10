-- What the entries of a history do to a block's kind, its dirty bit, where its sector is, and whether it is uptodate.
use Rattle.std.specs.Prelude.{ℕ, Bool, true, false, ◌&&◌, not, ◌==◌, Option, Some, None, is_some, List, [], ◌∷◌, length, if◌then◌else◌}
use Rattle.std.specs.List.{fold}
use Rattle.iob_base.specs.declared.stamp.Op.{Op}
use Rattle.iob_base.specs.declared.stamp.Op.TheVariants.{Write}
use Rattle.iob_base.specs.declared.stamp.Tag.{Tag}
use Rattle.io_model.specs.declared.file.Kind.{Kind}
use Rattle.io_model.specs.declared.file.Kind.TheVariants.{Hole, Delalloc, Unwritten, Mapped}
use Rattle.range_core.specs.Kinds.{is_delalloc, is_mapped, written_kind}
use Rattle.range_core.specs.Spots.{in_run, is_met}
use Rattle.range_core.specs.declared.cell.Cell.{Cell}
use Rattle.range_core.specs.declared.entry.Entry.{Entry}
use Rattle.range_core.specs.declared.entry.Event.{Event}
use Rattle.range_core.specs.declared.entry.Event.TheVariants.{Reserve, Unreserve, Attach, Preallocate, Fetch, LendRead, FillBack, Store, StoreZeros, LendWriteback, WrittenBack, DropClean, LendDirect, LendPart, DirectBack, PartBack, DirectNow, Wipe, DaxPut}
use Rattle.range_core.specs.declared.entry.Outcome.{Outcome}
use Rattle.range_core.specs.declared.entry.Outcome.TheVariants.{Sampled, Counted, Took, Lending, Finished}
use Rattle.range_core.specs.declared.lending.Away.{Away}
use Rattle.range_core.specs.declared.lending.Lender.{Lender}
use Rattle.range_core.specs.declared.lending.Lender.TheVariants.{Reading, Writeback, Direct, Part as InPart}

-- of a block: its kind, whether its page has bytes that its sector lacks, which ticket has its sector, and whether it has a page, which is then uptodate
pub record BlockState : Type 0 where
  pub kind : Kind
  pub dirty : Bool
  pub away : Option Away
  pub uptodate : Bool

abbrev pub state_of : Cell → BlockState
state_of c = record { kind = c.kind; dirty = c.dirty; away = c.away; uptodate = is_some c.page }

-- the number of the sector that a block took
abbrev pub taken_by : ℕ → List (ℕ × ℕ) → Option ℕ
taken_by b [] = None
taken_by b (s ∷ sectors) = if s.0 == b then Some s.1 else taken_by b sectors

abbrev pub becomes_hole : BlockState → BlockState
becomes_hole s = record { kind = Hole; dirty = false; away = s.away; uptodate = false }

-- a block that took a sector has space that was never written
abbrev pub with_space : Option ℕ → BlockState → BlockState
with_space None s = s
with_space (Some d) s = record s { kind = Unwritten d }

-- a block written past the page cache is mapped, to its own sector or to the one that it took
abbrev pub put_through : Option ℕ → BlockState → BlockState
put_through None s = record s { kind = written_kind s.kind }
put_through (Some d) s = record s { kind = Mapped d }

abbrev pub lent_for : Lender → ℕ → BlockState → BlockState
lent_for lender ticket s = record s { away = Some (record { ticket = ticket; lender = lender }) }

-- lent for writeback, a block is clean until a store makes it dirty again
abbrev pub lent_clean : ℕ → BlockState → BlockState
lent_clean ticket s = record (lent_for Writeback ticket s) { dirty = false }

-- lent with a caller's own page, a block has none in the cache
abbrev pub lent_directly : Tag → Op → ℕ → BlockState → BlockState
lent_directly by op ticket s = record (lent_for (Direct by op) ticket s) { uptodate = false }

-- the same of a block that was lent for a write of a part of it
abbrev pub lent_in_part : Tag → ℕ → ℕ → ℕ → BlockState → BlockState
lent_in_part by from to ticket s = record (lent_for (InPart by from to) ticket s) { uptodate = false }

abbrev pub at_home_again : BlockState → BlockState
at_home_again s = record s { away = None }

-- a block that was read whole has its page
abbrev pub read_back : Bool → BlockState → BlockState
read_back true s = at_home_again s
read_back false s = record s { away = None; uptodate = true }

abbrev pub becomes_uptodate : BlockState → BlockState
becomes_uptodate s = record s { uptodate = true }

-- a block with bytes that its sector lacks
abbrev pub becomes_dirty : BlockState → BlockState
becomes_dirty s = record s { dirty = true; uptodate = true }

abbrev pub without_page : BlockState → BlockState
without_page s = record s { uptodate = false }

-- a block whose page was written is mapped, and one whose page was not is dirty
abbrev pub written_back : Bool → BlockState → BlockState
written_back true s = record s { dirty = true; away = None }
written_back false s = record s { kind = written_kind s.kind; away = None }

-- a block is mapped once a caller's page was written to it
abbrev pub directly_back : Op → Bool → BlockState → BlockState
directly_back Write false s = record s { kind = written_kind s.kind; away = None }
directly_back _ _ s = record s { away = None }

-- zeros over a block that reads as zeros and is at home and clean change nothing
abbrev pub is_zero_already : BlockState → Bool
is_zero_already s = not (is_mapped s.kind) && (not s.dirty && not (is_some s.away))

-- a block's state after an event that came about
abbrev pub state_by : ℕ → ℕ → Event → Outcome → BlockState → BlockState
state_by size b (Reserve seen blocks) (Sampled sample) s = if in_run sample.extent.block sample.extent.length b then record s { kind = Delalloc } else s
state_by size b (Unreserve block blocks) (Counted n) s = if in_run block blocks b && (is_delalloc s.kind && not s.dirty) then becomes_hole s else s
state_by size b (Attach block blocks) (Took sectors) s = with_space (taken_by b sectors) s
state_by size b (Preallocate block blocks) (Took sectors) s = with_space (taken_by b sectors) s
state_by size b (LendRead block most) (Lending ticket n) s = if in_run block n b then lent_for Reading ticket s else s
state_by size b (Fetch by from to) Finished s = if is_met size from to b then becomes_uptodate s else s
state_by size b (FillBack ticket block n done) Finished s = if in_run block n b then read_back done.failed s else s
state_by size b (Store by seen from to bytes) Finished s = if is_met size from to b then becomes_dirty s else s
state_by size b (StoreZeros by seen from to) Finished s = if is_met size from to b && not (is_zero_already s) then becomes_dirty s else s
state_by size b (LendWriteback block most) (Lending ticket n) s = if in_run block n b then lent_clean ticket s else s
state_by size b (WrittenBack ticket block kind n done) (Counted m) s = if in_run block n b then written_back done.failed s else s
state_by size b (DropClean block blocks) (Counted n) s = if in_run block blocks b && (not s.dirty && not (is_some s.away)) then without_page s else s
state_by size b (LendDirect by seen op block n) (Lending ticket m) s = if in_run block n b then lent_directly by op ticket s else s
state_by size b (LendPart by seen block from to) (Lending ticket m) s = if in_run block 1 b then lent_in_part by from to ticket s else s
state_by size b (DirectBack by op ticket block kind pages done) Finished s = if in_run block (length pages) b then directly_back op done.failed s else s
state_by size b (PartBack by ticket block kind from to bytes done) Finished s = if in_run block 1 b then directly_back Write done.failed s else s
state_by size b (DirectNow by block most) (Counted n) s = if in_run block n b && is_mapped s.kind then without_page s else s
state_by size b (Wipe by block blocks) (Counted n) s = if in_run block blocks b then becomes_hole s else s
state_by size b (DaxPut by seen from to bytes) (Took sectors) s = if is_met size from to b then put_through (taken_by b sectors) s else s
state_by size b _ _ s = s

abbrev pub state_after : ℕ → ℕ → BlockState → Entry → BlockState
state_after size b s e = state_by size b e.event e.outcome s

-- a block's state after a history, from its state before the first entry
abbrev pub states_replayed : ℕ → ℕ → BlockState → List Entry → BlockState
states_replayed size b opening history = fold (state_after size b) opening history
