-- A seat at a cell together with what it claims there.
use Rattle.std.specs.Prelude.{◌<◌}
use Rattle.atomic_table.specs.Seated.{TableId}
use Rattle.turn_cell.specs.Views.{CellView, SeatView, kept_part, new_part}
use Rattle.range_core.specs.ClaimsView.{ClaimsView, next_claims, rest_claims}
use Rattle.range_core.specs.RangeView.{RangeView}
use Rattle.range_core.specs.declared.entry.Entry.{Entry}
use Rattle.size_core.specs.ClaimsView as size
use Rattle.size_core.specs.SizesView.{SizesView}
use Rattle.size_core.specs.declared.entry.SizeEntry.{SizeEntry}
use Rattle.mini_fs.specs.Splits.{given_share}

pub record StripePlace : Type 0 where
  pub seat : SeatView Entry
  pub claims : ClaimsView

pub record SizePlace : Type 0 where
  pub seat : SeatView SizeEntry
  pub claims : size.ClaimsView

abbrev pub stripe_place : SeatView Entry → ClaimsView → StripePlace
stripe_place seat claims = record { seat = seat; claims = claims }

abbrev pub size_place : SeatView SizeEntry → size.ClaimsView → SizePlace
size_place seat claims = record { seat = seat; claims = claims }

-- which cells they are at
abbrev pub cell_of_stripe : StripePlace → TableId
cell_of_stripe p = p.seat.cell

abbrev pub cell_of_size : SizePlace → TableId
cell_of_size p = p.seat.cell

abbrev pub id_of_range : CellView RangeView → TableId
id_of_range c = c.cell

abbrev pub id_of_size : CellView SizesView → TableId
id_of_size c = c.cell

-- a new caller's seat may be split off
abbrev pub CanGiveStripe : StripePlace → Type 0
CanGiveStripe p = (given_share < p.seat.share) × (0 < p.claims.spare)

abbrev pub CanGiveSize : SizePlace → Type 0
CanGiveSize p = (given_share < p.seat.share) × (0 < p.claims.spare)

-- what is left, and the new caller's
abbrev pub kept_stripe_place : StripePlace → StripePlace
kept_stripe_place p = record { seat = kept_part p.seat given_share; claims = rest_claims p.claims }

abbrev pub given_stripe_place : StripePlace → StripePlace
given_stripe_place p = record { seat = new_part p.seat given_share; claims = next_claims p.claims }

abbrev pub kept_size_place : SizePlace → SizePlace
kept_size_place p = record { seat = kept_part p.seat given_share; claims = size.rest_claims p.claims }

abbrev pub given_size_place : SizePlace → SizePlace
given_size_place p = record { seat = new_part p.seat given_share; claims = size.next_claims p.claims }
