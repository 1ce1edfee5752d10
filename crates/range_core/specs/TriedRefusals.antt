-- Refusals tried on ranges of three blocks of four bytes.
use Rattle.std.specs.Prelude.{◌≡◌, ℕ, Bool, true, false, Some, None, List, [], ◌∷◌}
use Rattle.iob_base.specs.declared.TheConstants.{WORN}
use Rattle.iob_base.specs.declared.stamp.Mode.TheVariants.{Cached}
use Rattle.iob_base.specs.declared.stamp.Op.TheVariants.{Read, Write}
use Rattle.iob_base.specs.declared.sector.Page.{Page}
use Rattle.io_model.specs.declared.file.Kind.{Kind}
use Rattle.io_model.specs.declared.file.Kind.TheVariants.{Hole, Delalloc, Unwritten, Mapped}
use Rattle.range_core.specs.RangeView.{RangeView}
use Rattle.range_core.specs.Refusals.{reserve_refusal, attach_refusal, preallocate_refusal, fetch_refusal, store_refusal, lend_read_refusal, lend_writeback_refusal, lend_direct_refusal, lend_part_refusal, direct_now_refusal, wipe_refusal, dax_put_refusal}
use Rattle.range_core.specs.Space.{SpaceClaims}
use Rattle.space_pool.specs.declared.entry.PoolEntry.{PoolEntry}
use Rattle.turn_cell.specs.Views.{SeatView, first_seat}
use Rattle.range_core.specs.declared.cell.Cell.{Cell}
use Rattle.range_core.specs.declared.fault.EventFault.TheVariants.{Stale, Away, Cold, Settled, Unattached, Dirty, Worn}
use Rattle.range_core.specs.declared.lending.Lender.{Lender}
use Rattle.range_core.specs.declared.lending.Lender.TheVariants.{Reading, Writeback, Part as InPart}
use Rattle.range_core.specs.declared.sample.Sample.{Sample}

abbrev seat : SeatView PoolEntry
seat = first_seat (record { words = 1; slots = 1; views_name = 0; atom = 0; block = 0; offset = 0; slot_names = [] }) 1

abbrev space : SpaceClaims
space = record { numbers = []; reserved = 0; cap = 3; size = 4 }

abbrev range : ℕ → List Cell → RangeView
range cookie cells = record { geometry = record { block_size = 4; folio_blocks = 4; grain = 4 }; mode = Cached; first = 0; cells = cells; log = []; cookie = cookie; errors = 0; tickets = 6; seat = seat; space = space }

abbrev page : Page
page = record { number = 0; bytes = 1 ∷ 2 ∷ 3 ∷ 4 ∷ [] }

abbrev bare : Kind → Cell
bare kind = record { kind = kind; sector = None; away = None; page = None; dirty = false }

abbrev paged : Kind → Bool → Cell
paged kind dirty = record { kind = kind; sector = None; away = None; page = Some page; dirty = dirty }

abbrev lent : Kind → Lender → Cell
lent kind lender = record { kind = kind; sector = None; away = Some (record { ticket = 5; lender = lender }); page = None; dirty = false }

-- lent for writeback, a block has its page still
abbrev written : Kind → Cell
written kind = record (lent kind Writeback) { page = Some page }

abbrev seen : ℕ → Kind → Sample
seen cookie kind = record { cookie = cookie; errors = 0; extent = record { block = 0; length = 1; kind = kind } }

-- a sample of an earlier cookie comes before all else
abbrev pub StaleComesFirst : Type 0
StaleComesFirst = store_refusal (range 2 (lent (Mapped 7) Reading ∷ [])) (seen 1 Delalloc) 1 2 ≡ Some (Stale 1 2)

-- a block that is away hinders before an earlier one that is cold
abbrev pub AwayComesBeforeCold : Type 0
AwayComesBeforeCold =
    (fetch_refusal (range 0 (bare (Mapped 7) ∷ lent (Mapped 8) Reading ∷ [])) 1 7 ≡ Some (Away 1 5)) × (fetch_refusal (range 0 (bare Hole ∷ bare (Mapped 8) ∷ [])) 1 7 ≡ Some (Cold 1))

-- a block that is away for writeback hinders neither a fetch nor a store
abbrev pub WritebackHindersNoStore : Type 0
WritebackHindersNoStore =
    (fetch_refusal (range 0 (written (Mapped 7) ∷ [])) 1 2 ≡ None) × (store_refusal (range 0 (written (Mapped 7) ∷ [])) (seen 0 (Mapped 7)) 1 2 ≡ None)

-- a store reads no block that it covers whole
abbrev pub WholeBlocksAreNotCold : Type 0
WholeBlocksAreNotCold =
    (store_refusal (range 0 (bare (Mapped 7) ∷ bare (Mapped 8) ∷ [])) (seen 0 (Mapped 7)) 0 6 ≡ Some (Cold 1)) × (store_refusal (range 0 (bare (Mapped 7) ∷ bare (Mapped 8) ∷ [])) (seen 0 (Mapped 7)) 0 8 ≡ None)

-- nothing is lent of a block on which there is nothing to do
abbrev pub SettledIsNotLent : Type 0
SettledIsNotLent =
    (lend_read_refusal (range 0 (paged (Mapped 7) false ∷ [])) 0 ≡ Some (Settled 0)) × (lend_read_refusal (range 0 (bare (Unwritten 7) ∷ [])) 0 ≡ Some (Settled 0))
    × (lend_read_refusal (range 0 (bare (Mapped 7) ∷ [])) 0 ≡ None) × (lend_writeback_refusal (range 0 (paged (Mapped 7) false ∷ [])) 0 ≡ Some (Settled 0))
    × (lend_writeback_refusal (range 0 (paged Delalloc true ∷ [])) 0 ≡ Some (Unattached 0)) × (lend_writeback_refusal (range 0 (paged (Mapped 7) true ∷ [])) 0 ≡ None)

-- a direct read takes no block whose newest bytes are in memory alone
abbrev pub DirtyIsNotReadDirectly : Type 0
DirtyIsNotReadDirectly = (direct_now_refusal (range 0 (bare Hole ∷ paged Delalloc true ∷ [])) 1 ≡ Some (Dirty 1)) × (direct_now_refusal (range 0 (bare Hole ∷ paged Delalloc true ∷ [])) 0 ≡ None)

-- no event that may be refused changes a kind once the cookies are used up, and one that changes none goes on
abbrev pub WornChangesNoKind : Type 0
WornChangesNoKind =
    (reserve_refusal (range WORN (bare Hole ∷ [])) (seen WORN Hole) ≡ Some (Worn WORN)) × (wipe_refusal (range WORN (bare (Mapped 7) ∷ [])) 0 1 ≡ Some (Worn WORN))
    × (wipe_refusal (range WORN (bare Hole ∷ [])) 0 1 ≡ None) × (lend_writeback_refusal (range WORN (paged (Unwritten 7) true ∷ [])) 0 ≡ Some (Worn WORN))
    × (attach_refusal (range WORN (paged Delalloc true ∷ [])) 0 1 ≡ Some (Worn WORN)) × (attach_refusal (range WORN (bare Delalloc ∷ [])) 0 1 ≡ None)
    × (preallocate_refusal (range WORN (bare Hole ∷ [])) 0 1 ≡ Some (Worn WORN)) × (preallocate_refusal (range WORN (bare (Mapped 7) ∷ [])) 0 1 ≡ None)

-- a transfer of a caller's own pages is refused for its sample first, then for a block that is away, for one that is dirty, and for want of cookies where it would map blocks
abbrev pub DirectLendsAreRefusedInOrder : Type 0
DirectLendsAreRefusedInOrder =
    (lend_direct_refusal (range 2 (lent (Mapped 7) Reading ∷ [])) (seen 1 (Mapped 7)) Write 0 1 ≡ Some (Stale 1 2))
    × (lend_direct_refusal (range 0 (paged (Mapped 7) true ∷ lent (Mapped 8) Reading ∷ [])) (seen 0 (Mapped 7)) Read 0 2 ≡ Some (Away 1 5))
    × (lend_direct_refusal (range WORN (paged (Unwritten 7) true ∷ [])) (seen WORN (Unwritten 7)) Write 0 1 ≡ Some (Dirty 0))
    × (lend_direct_refusal (range WORN (bare (Unwritten 7) ∷ [])) (seen WORN (Unwritten 7)) Write 0 1 ≡ Some (Worn WORN))
    × (lend_direct_refusal (range WORN (bare (Unwritten 7) ∷ [])) (seen WORN (Unwritten 7)) Read 0 1 ≡ None) × (lend_direct_refusal (range WORN (paged (Mapped 7) false ∷ [])) (seen WORN (Mapped 7)) Write 0 1 ≡ None)

-- a write of a part of a block is refused for its sample first, then where the block is away, where it has to be read first, where it is dirty, and for want of cookies where it was never written
abbrev pub PartLendsAreRefusedInOrder : Type 0
PartLendsAreRefusedInOrder =
    (lend_part_refusal (range 2 (lent (Mapped 7) Reading ∷ [])) (seen 1 (Mapped 7)) 0 ≡ Some (Stale 1 2)) × (lend_part_refusal (range 0 (lent (Mapped 7) Reading ∷ [])) (seen 0 (Mapped 7)) 0 ≡ Some (Away 0 5))
    × (lend_part_refusal (range 0 (record (bare (Mapped 7)) { dirty = true } ∷ [])) (seen 0 (Mapped 7)) 0 ≡ Some (Cold 0))
    × (lend_part_refusal (range WORN (paged (Unwritten 7) true ∷ [])) (seen WORN (Unwritten 7)) 0 ≡ Some (Dirty 0)) × (lend_part_refusal (range WORN (bare (Unwritten 7) ∷ [])) (seen WORN (Unwritten 7)) 0 ≡ Some (Worn WORN))
    × (lend_part_refusal (range 0 (bare (Unwritten 7) ∷ [])) (seen 0 (Unwritten 7)) 0 ≡ None) × (lend_part_refusal (range WORN (paged (Mapped 7) false ∷ [])) (seen WORN (Mapped 7)) 0 ≡ None)

-- a block that is lent in part hinders what needs its page
abbrev pub LentPartHinders : Type 0
LentPartHinders =
    (fetch_refusal (range 0 (lent (Mapped 7) (InPart (record { caller = 3; call = 9 }) 1 3) ∷ [])) 1 2 ≡ Some (Away 0 5))
    × (store_refusal (range 0 (lent (Mapped 7) (InPart (record { caller = 3; call = 9 }) 1 3) ∷ [])) (seen 0 (Mapped 7)) 1 2 ≡ Some (Away 0 5))

-- bytes for sectors are refused for their sample first, and then for want of cookies where they would map blocks
abbrev pub PutsAreRefusedInOrder : Type 0
PutsAreRefusedInOrder =
    (dax_put_refusal (range WORN (bare Hole ∷ [])) (seen 3 Hole) ≡ Some (Stale 3 WORN)) × (dax_put_refusal (range WORN (bare Hole ∷ [])) (seen WORN Hole) ≡ Some (Worn WORN))
    × (dax_put_refusal (range WORN (bare (Mapped 7) ∷ [])) (seen WORN (Mapped 7)) ≡ None)
