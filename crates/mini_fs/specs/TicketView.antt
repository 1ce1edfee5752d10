-- What contracts see of a ticket.
use Rattle.std.specs.Prelude.{ℕ, Option}
use Rattle.turn_cell.specs.Views.{SeatView}
use Rattle.range_core.specs.ClaimsView.{ClaimsView}
use Rattle.range_core.specs.declared.entry.Entry.{Entry}
use Rattle.range_core.specs.declared.lending.Held.{Held}

-- the stripe whose seat it was split off, its own seat, the caller number, and the blocks lent
pub record TicketView : Type 0 where
  pub stripe : ℕ
  pub seat : SeatView Entry
  pub caller : ℕ
  pub held : Option Held

abbrev pub ticket_view : ℕ → SeatView Entry → ClaimsView → TicketView
ticket_view stripe seat claims = record { stripe = stripe; seat = seat; caller = claims.caller; held = claims.held }
