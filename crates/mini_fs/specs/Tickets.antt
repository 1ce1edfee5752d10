-- A ticket: a seat that carries a loan of a pass.
use Rattle.std.specs.Prelude.{◌≡◌, ℕ, ◌+◌, false, Option, Some, None, [], slice_get}
use Rattle.turn_cell.specs.Stakes.{Begins}
use Rattle.turn_cell.specs.Views.{SeatView, kept_part, new_part}
use Rattle.range_core.specs.ClaimsView.{ClaimsView}
use Rattle.range_core.specs.declared.entry.Entry.{Entry}
use Rattle.range_core.specs.declared.lending.Held.{Held}
use Rattle.mini_fs.specs.PassView.{PassView, claims_of}
use Rattle.mini_fs.specs.TicketView.{TicketView}
use Rattle.mini_fs.specs.Turns.{with_seat}

-- what a ticket's seat claims
abbrev pub ticket_claims : ℕ → Option Held → ClaimsView
ticket_claims caller held = record { caller = caller; spare = 0; main = false; held = held }

-- these claims with this loan, or without one
abbrev pub with_held : ClaimsView → Option Held → ClaimsView
with_held c held = record c { held = held }

-- what the pass claims in a turn that it makes with a ticket's loan
abbrev pub lent_claims : PassView → Option Held → ClaimsView
lent_claims p held = with_held (claims_of p) held

-- The second seat carries a loan of the first: it is of the same cell, has seen nothing that the first has not, made no entry, and has a share of 1
pub record IsLoanSeat (seat loan : SeatView Entry) : Type 0 where
  pub cell : loan.cell ≡ seat.cell
  pub begins : Begins loan.seen seat.seen
  pub made : loan.made ≡ []
  pub share : loan.share ≡ 1

-- The ticket is of this pass: it has the pass's number, and its seat carries a loan of the pass's seat at its stripe
pub record IsTicketOf (p : PassView) (t : TicketView) : Type 0 where
  pub caller : t.caller ≡ p.caller
  pub seat : SeatView Entry
  pub here : slice_get p.stripes t.stripe ≡ Some seat
  pub loan : IsLoanSeat seat t.seat

-- Every ticket of the first pass is one of the second
abbrev pub KeepsTickets : PassView → PassView → Type 0
KeepsTickets p q = (t : TicketView) → IsTicketOf p t → IsTicketOf q t

-- A ticket without a loan was split off a seat of the pass, with a share of 1
pub record Opened (p : PassView) (stripe : ℕ) (q : PassView) (t : TicketView) : Type 0 where
  pub seat : SeatView Entry
  pub here : slice_get p.stripes stripe ≡ Some seat
  pub pass_is : q ≡ with_seat p stripe (kept_part seat 1)
  pub ticket_is : t ≡ record { stripe = stripe; seat = new_part seat 1; caller = p.caller; held = None }

-- the seat with the share of another more
abbrev pub with_share : SeatView Entry → ℕ → SeatView Entry
with_share seat share = record seat { share = seat.share + share }

-- A ticket's share came back to the seat of the pass at its stripe
pub record ClosedTicket (p : PassView) (t : TicketView) (q : PassView) : Type 0 where
  pub seat : SeatView Entry
  pub here : slice_get p.stripes t.stripe ≡ Some seat
  pub pass_is : q ≡ with_seat p t.stripe (with_share seat t.seat.share)
