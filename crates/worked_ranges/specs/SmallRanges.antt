-- A range of six blocks at a cell, and its callers.
use Rattle.std.specs.Prelude.{◌≡◌, ℕ, ◌+◌, ◌^◌, Option, Some, None, IfSome, List, [], ◌∷◌, length, true}
use Rattle.iob_base.specs.declared.stamp.Mode.{Mode}
use Rattle.iob_base.specs.Parting.{IsBare}
use Rattle.iob_base.specs.declared.part.Part.{Part}
use Rattle.range_core.specs.BlockTruth.{IsWholePage}
use Rattle.fault_device.specs.Transfer.{CanTransfer}
use Rattle.io_model.specs.declared.file.Extent.{Extent}
use Rattle.io_model.specs.declared.file.Kind.TheVariants.{Mapped, Unwritten}
use Rattle.iov_iter.specs.Home.{AreHome}
use Rattle.iov_iter.specs.IovView.{IovView}
use Rattle.turn_cell.specs.Seats.{cell_view, seat_claims, seat_view}
use Rattle.turn_cell.specs.Views.{CellView, SeatView}
use Rattle.turn_cell.specs.declared.cell.TurnCell.{TurnCell}
use Rattle.turn_cell.specs.declared.chronicle.Chronicle.{Ghosts}
use Rattle.turn_cell.specs.declared.seat.TurnSeat.{TurnSeat}
use Rattle.space_pool.specs.Pool.{PoolView}
use Rattle.space_pool.specs.declared.entry.PoolEntry.{PoolEntry}
use Rattle.range_core.specs.ClaimsView.{ClaimsView}
use Rattle.range_core.specs.RangeView.{RangeView, LiesAt}
use Rattle.range_core.specs.KnownSamples.{WasGiven}
use Rattle.range_core.specs.Space.{SpaceClaims}
use Rattle.range_core.specs.declared.entry.Entry.{Entry}
use Rattle.range_core.specs.declared.lending.Held.{Held}
use Rattle.range_core.specs.declared.lending.Lender.{Lender}
use Rattle.range_core.specs.declared.lending.Lent.{Lent}
use Rattle.range_core.specs.declared.sample.Sample.{Sample}

-- a range of six blocks of 16 bytes from block 0 on, in folios of four, of a file of this mode
pub record IsSmall (mode : Mode) (r : RangeView) : Type 0 where
  pub size : r.geometry.block_size ≡ 16
  pub folio : r.geometry.folio_blocks ≡ 4
  pub mode_is : r.mode ≡ mode
  pub first : r.first ≡ 0
  pub blocks : length r.cells ≡ 6

-- a seat is of this pool, has with another seat the whole share, and claims no sector
pub record IsKeeper (pool : CellView PoolView) (keeper : SeatView PoolEntry) (kept : SpaceClaims) (other : SeatView PoolEntry) : Type 0 where
  pub place : keeper.cell ≡ pool.cell
  pub whole : keeper.share + other.share ≡ 2 ^ 63
  pub none : kept.numbers ≡ []

-- the cell was opened with such a range, whose seat at the pool is of this pool, beside this keeper
pub record IsGround (mode : Mode) (cell : CellView RangeView) (pool : CellView PoolView) (keeper : SeatView PoolEntry) (kept : SpaceClaims) : Type 0 where
  pub small : IsSmall mode cell.opening
  pub pool_is : cell.opening.seat.cell ≡ pool.cell
  pub keeps : IsKeeper pool keeper kept cell.opening.seat

-- a part of a small range's own size that has no block
pub record IsWholeAndBare (p : Part) : Type 0 where
  pub whole : IsWholePage 16 p.page
  pub bare : IsBare p

-- a seat claims what was lent to it for this, which a transfer can move
pub record IsLentFor (opening : RangeView) (claims : ClaimsView) (lender : Lender) (lent : Lent) : Type 0 where
  pub claim : Held
  pub held : claims.held ≡ Some claim
  pub lent_is : claim.lent.value ≡ lent
  pub lender_is : claim.lender ≡ lender
  pub ready : CanTransfer lent.parts
  pub lies : LiesAt opening lent.block (length lent.parts)

-- it claims exactly that, or nothing
abbrev pub Holds : RangeView → ClaimsView → Option (Lender × Lent) → Type 0
Holds opening claims None = claims.held ≡ None
Holds opening claims (Some loan) = IsLentFor opening claims loan.0 loan.1

-- a caller's own seat of a cell was given the sample, and claims the loan
pub record IsCaller (cell : CellView RangeView) (seat : SeatView Entry) (claims : ClaimsView) (sample : Option Sample) (loan : Option (Lender × Lent)) : Type 0 where
  pub at_cell : seat.cell ≡ cell.cell
  pub given : IfSome sample (λ s. WasGiven s seat.seen)
  pub holds : Holds cell.opening claims loan
  pub own : claims.main ≡ true

module _ {g : Ghosts RangeView ClaimsView Entry} where
  abbrev pub Stands : TurnCell RangeView ClaimsView Entry → TurnSeat RangeView ClaimsView Entry g → Option Sample → Option (Lender × Lent) → Type 0
  Stands cell seat sample loan = IsCaller (cell_view cell) (seat_view seat) (seat_claims seat) sample loan

-- the extents of such a range: two mapped blocks, and one that was never written
abbrev pub SMALL_EXTENTS : List Extent
SMALL_EXTENTS = record { block = 0; length = 2; kind = Mapped 2 } ∷ record { block = 2; length = 1; kind = Unwritten 5 } ∷ []

-- the numbers of their sectors
abbrev pub OWN_NUMBERS : List ℕ
OWN_NUMBERS = 2 ∷ 3 ∷ 5 ∷ []

-- an iov of one segment of 96 bytes, all of whose pages are at home
pub record IsBuffer (v : IovView) : Type 0 where
  pub one : v.lengths ≡ 96 ∷ []
  pub home : AreHome v.pages 0 96
