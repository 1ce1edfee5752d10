-- How a small range and its pool end.
use Rattle.std.specs.Prelude.{◌≡◌, ℕ, ◌+◌, ◌-◌, ◌^◌, Option, Some, None, List, [], ◌∷◌, ◌++◌}
use Rattle.iob_base.specs.DeviceBlock.{DeviceBlock}
use Rattle.io_model.specs.declared.file.BlockEnd.{BlockEnd}
use Rattle.fault_device.specs.declared.lane.Done.{Done}
use Rattle.iob_base.specs.declared.stamp.Op.TheVariants.{Write}
use Rattle.atomic_table.specs.Seated.{TableId}
use Rattle.turn_cell.specs.Seats.{cell_view, seat_claims, seat_view}
use Rattle.turn_cell.specs.Stakes.{total}
use Rattle.turn_cell.specs.Views.{CellView, SeatView}
use Rattle.turn_cell.specs.declared.cell.TurnCell.{TurnCell}
use Rattle.turn_cell.specs.declared.chronicle.Chronicle.{Ghosts}
use Rattle.turn_cell.specs.declared.seat.TurnSeat.{TurnSeat}
use Rattle.range_core.specs.ClaimsView.{ClaimsView, first_claims, next_claims, released, rest_claims}
use Rattle.range_core.specs.RangeView.{RangeView}
use Rattle.range_core.specs.Returning.{MayComeBack}
use Rattle.range_core.specs.declared.entry.Entry.{Entry}
use Rattle.range_core.specs.declared.lending.Lender.{Lender}
use Rattle.range_core.specs.declared.lending.Lender.TheVariants.{Writeback}
use Rattle.range_core.specs.declared.lending.Lent.{Lent}
use Rattle.worked_ranges.specs.SmallRanges.{IsLentFor}

-- what a caller's turns leave as it was: the cell, its seat's place there and its share, and all that it claims but what is lent to it
pub record OwnPart : Type 0 where
  pub cell : CellView RangeView
  pub place : TableId
  pub share : ℕ
  pub claims : ClaimsView

module _ {g : Ghosts RangeView ClaimsView Entry} where
  abbrev pub own_part : TurnCell RangeView ClaimsView Entry → TurnSeat RangeView ClaimsView Entry g → OwnPart
  own_part cell seat = record { cell = cell_view cell; place = (seat_view seat).cell; share = (seat_view seat).share; claims = released (seat_claims seat) }

-- the same with a share of one less, and of one more
abbrev pub without_one : OwnPart → OwnPart
without_one own = record own { share = own.share - 1 }

abbrev pub with_one : OwnPart → OwnPart
with_one own = record own { share = own.share + 1 }

-- what the first of two callers at a cell has, and what the second has
abbrev pub first_part : CellView RangeView → OwnPart
first_part cell = record { cell = cell; place = cell.cell; share = 2 ^ 63 - 1; claims = rest_claims first_claims }

abbrev pub second_part : CellView RangeView → OwnPart
second_part cell = record { cell = cell; place = cell.cell; share = 1; claims = next_claims first_claims }

-- A seat carries a loan of a caller: it is of the caller's cell and number, has the share of 1, has no number to hand on, and claims what was lent
pub record CarriesLoan (own : OwnPart) (seat : SeatView Entry) (claims : ClaimsView) (lender : Lender) (lent : Lent) : Type 0 where
  pub place : seat.cell ≡ own.place
  pub share : seat.share ≡ 1
  pub caller : claims.caller ≡ own.claims.caller
  pub spare : claims.spare ≡ 0
  pub lent_for : IsLentFor own.cell.opening claims lender lent

-- It carries what was written of a loan
pub record CarriesWritten (own : OwnPart) (seat : SeatView Entry) (claims : ClaimsView) (back : Lent) (done : Done) : Type 0 where
  pub place : seat.cell ≡ own.place
  pub share : seat.share ≡ 1
  pub caller : claims.caller ≡ own.claims.caller
  pub spare : claims.spare ≡ 0
  pub may : MayComeBack own.cell.opening claims Writeback Write back done

-- however numbers are weighed, both lists weigh the same: each number stands in both as often
abbrev pub SameNumbers : List ℕ → List ℕ → Type 0
SameNumbers xs ys = (f : ℕ → ℕ) → total f xs ≡ total f ys

-- the numbers of the device, each once
abbrev pub DEVICE_NUMBERS : List ℕ
DEVICE_NUMBERS = 0 ∷ 1 ∷ 2 ∷ 3 ∷ 4 ∷ 5 ∷ 6 ∷ 7 ∷ []

-- the number of a block's sector, where it has one
abbrev pub sector_number : Option DeviceBlock → List ℕ
sector_number None = []
sector_number (Some s) = s.number ∷ []

-- the numbers of the sectors of blocks, in order
abbrev pub end_numbers : List BlockEnd → List ℕ
end_numbers [] = []
end_numbers (e ∷ ends) = sector_number e.sector ++ end_numbers ends
