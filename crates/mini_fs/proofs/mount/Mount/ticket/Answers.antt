use Rattle.std.proofs.Common.{◌≡◌, ◌<◌, Some, None, ap, ◌∙◌, sym, subst, refl}
use Rattle.std.specs.Prelude.{slice_get}
use Rattle.turn_cell.specs.Seats.{cell_view, seat_claims, seat_view}
use Rattle.turn_cell.specs.Stakes.{Begins}
use Rattle.turn_cell.specs.Views.{SeatView, kept_part, new_part}
use Rattle.turn_cell.proofs.Beginnings.{begins-self}
use Rattle.range_core.specs.ClaimsView.{ClaimsView}
use Rattle.range_core.specs.declared.entry.Entry.{Entry}
use Rattle.mount_parts.specs.MountView.{MountView}
use Rattle.mini_fs.specs.PassView.{PassView, IsPassOf, claims_of, own_claims, share_in}
use Rattle.mini_fs.specs.TicketView.{ticket_view}
use Rattle.mini_fs.specs.Tickets.{IsLoanSeat, IsTicketOf, KeepsTickets}
use Rattle.mini_fs.specs.Turns.{StandAt, with_seat}
use Rattle.mount_parts.proofs.Places.{same-at, set-same}
use Rattle.mini_fs.proofs.Seats.{of-with_seat, seat-set, seat-there, stands-at, stands-in, tickets-with_seat}
use Rattle.mini_fs.proofs.mount.Mount.ticket.Goals as goal

pub split-seat-requires-clause-cell : goal.split-seat-requires-clause-cell
split-seat-requires-clause-cell c =
    let r = c.pass.inside in
    let m : MountView = c.args.self.now in
    let p : PassView = c.args.pass.now in
    let i = c.stripe-stripe.result in
    let x = c.index_mut.result.now in
    let cell = cell_view c.range_cell-cell.result.now in
    let there = seat-there seat_view r.stripes.items _ r.locks.items r.caller r.spare r.last r.begun r.bios p c.pass.view_is i m c.requires.of x cell c.index_mut.ensures.value c.range_cell-cell.ensures in
    let stand : StandAt m p i cell (seat_view x) = stands-at seat_view r.stripes.items _ r.locks.items r.caller r.spare r.last r.begun r.bios p c.pass.view_is i m c.requires.of x cell c.index_mut.ensures.value c.range_cell-cell.ensures in
    let own : (seat_view x).cell ≡ cell.cell = stands-in seat_view r.stripes.items _ r.locks.items r.caller r.spare r.last r.begun r.bios p c.pass.view_is i m c.requires.of x cell c.index_mut.ensures.value c.range_cell-cell.ensures in
    let claims : seat_claims x ≡ claims_of p = same-at seat_claims r.stripes.items (own_claims r.caller r.spare) i x c.pass.invariant.0 there ∙ ap claims_of c.pass.view_is in
    own

pub split-seat-requires-clause-less : goal.split-seat-requires-clause-less
split-seat-requires-clause-less c =
    let r = c.pass.inside in
    let m : MountView = c.args.self.now in
    let p : PassView = c.args.pass.now in
    let i = c.stripe-stripe.result in
    let x = c.index_mut.result.now in
    let cell = cell_view c.range_cell-cell.result.now in
    let there = seat-there seat_view r.stripes.items _ r.locks.items r.caller r.spare r.last r.begun r.bios p c.pass.view_is i m c.requires.of x cell c.index_mut.ensures.value c.range_cell-cell.ensures in
    let stand : StandAt m p i cell (seat_view x) = stands-at seat_view r.stripes.items _ r.locks.items r.caller r.spare r.last r.begun r.bios p c.pass.view_is i m c.requires.of x cell c.index_mut.ensures.value c.range_cell-cell.ensures in
    let own : (seat_view x).cell ≡ cell.cell = stands-in seat_view r.stripes.items _ r.locks.items r.caller r.spare r.last r.begun r.bios p c.pass.view_is i m c.requires.of x cell c.index_mut.ensures.value c.range_cell-cell.ensures in
    let claims : seat_claims x ≡ claims_of p = same-at seat_claims r.stripes.items (own_claims r.caller r.spare) i x c.pass.invariant.0 there ∙ ap claims_of c.pass.view_is in
    subst (λ o. 1 < share_in o) (ap (λ k. slice_get p.stripes k) (sym c.stripe-stripe.ensures.is) ∙ stand.seat_is) c.requires.share

pub returns-clause-of : goal.returns-clause-of
returns-clause-of c =
    let r = c.pass.inside in
    let m : MountView = c.args.self.now in
    let p : PassView = c.args.pass.now in
    let i = c.stripe-stripe.result in
    let x = c.index_mut.result.now in
    let cell = cell_view c.range_cell-cell.result.now in
    let there = seat-there seat_view r.stripes.items _ r.locks.items r.caller r.spare r.last r.begun r.bios p c.pass.view_is i m c.requires.of x cell c.index_mut.ensures.value c.range_cell-cell.ensures in
    let stand : StandAt m p i cell (seat_view x) = stands-at seat_view r.stripes.items _ r.locks.items r.caller r.spare r.last r.begun r.bios p c.pass.view_is i m c.requires.of x cell c.index_mut.ensures.value c.range_cell-cell.ensures in
    let own : (seat_view x).cell ≡ cell.cell = stands-in seat_view r.stripes.items _ r.locks.items r.caller r.spare r.last r.begun r.bios p c.pass.view_is i m c.requires.of x cell c.index_mut.ensures.value c.range_cell-cell.ensures in
    let claims : seat_claims x ≡ claims_of p = same-at seat_claims r.stripes.items (own_claims r.caller r.spare) i x c.pass.invariant.0 there ∙ ap claims_of c.pass.view_is in
    let y = c.split-seat.new.seat in
    let kept : seat_view y ≡ kept_part (seat_view x) 1 = c.split-seat.ensures.kept in
    let same : (seat_view y).cell ≡ (seat_view x).cell = ap (λ (s : SeatView Entry). s.cell) kept in
    let pass_is = seat-set seat_view r.stripes.items _ r.locks.items r.caller r.spare r.last r.begun r.bios p c.pass.view_is i y in
    subst (IsPassOf m) (sym pass_is) (of-with_seat p i (seat_view x) (seat_view y) stand.seat_is same m c.requires.of)

pub returns-clause-opened : goal.returns-clause-opened
returns-clause-opened c =
    let r = c.pass.inside in
    let m : MountView = c.args.self.now in
    let p : PassView = c.args.pass.now in
    let i = c.stripe-stripe.result in
    let x = c.index_mut.result.now in
    let cell = cell_view c.range_cell-cell.result.now in
    let there = seat-there seat_view r.stripes.items _ r.locks.items r.caller r.spare r.last r.begun r.bios p c.pass.view_is i m c.requires.of x cell c.index_mut.ensures.value c.range_cell-cell.ensures in
    let stand : StandAt m p i cell (seat_view x) = stands-at seat_view r.stripes.items _ r.locks.items r.caller r.spare r.last r.begun r.bios p c.pass.view_is i m c.requires.of x cell c.index_mut.ensures.value c.range_cell-cell.ensures in
    let own : (seat_view x).cell ≡ cell.cell = stands-in seat_view r.stripes.items _ r.locks.items r.caller r.spare r.last r.begun r.bios p c.pass.view_is i m c.requires.of x cell c.index_mut.ensures.value c.range_cell-cell.ensures in
    let claims : seat_claims x ≡ claims_of p = same-at seat_claims r.stripes.items (own_claims r.caller r.spare) i x c.pass.invariant.0 there ∙ ap claims_of c.pass.view_is in
    let y = c.split-seat.new.seat in
    let kept : seat_view y ≡ kept_part (seat_view x) 1 = c.split-seat.ensures.kept in
    let same : (seat_view y).cell ≡ (seat_view x).cell = ap (λ (s : SeatView Entry). s.cell) kept in
    let pass_is = seat-set seat_view r.stripes.items _ r.locks.items r.caller r.spare r.last r.begun r.bios p c.pass.view_is i y in
    let given : seat_view c.split-seat.result ≡ new_part (seat_view x) 1 = c.split-seat.ensures.given in
    let made = c.split-seat.ensures.claims.1 in
    let caller : (seat_claims c.split-seat.result).caller ≡ p.caller = ap (λ (k : ClaimsView). k.caller) made ∙ ap (λ (k : ClaimsView). k.caller) claims in
    let free : (seat_claims c.split-seat.result).held ≡ None = ap (λ (k : ClaimsView). k.held) made in
    let at = c.stripe-stripe.ensures.is in
    record {
      seat = seat_view x;
      here = subst (λ k. slice_get p.stripes k ≡ Some (seat_view x)) at stand.seat_is;
      pass_is = pass_is ∙ ap (with_seat p i) kept ∙ ap (λ k. with_seat p k (kept_part (seat_view x) 1)) at;
      ticket_is = λ j. record { stripe = at j; seat = given j; caller = caller j; held = free j };
    }

pub returns-clause-ticket : goal.returns-clause-ticket
returns-clause-ticket c =
    let r = c.pass.inside in
    let m : MountView = c.args.self.now in
    let p : PassView = c.args.pass.now in
    let i = c.stripe-stripe.result in
    let x = c.index_mut.result.now in
    let cell = cell_view c.range_cell-cell.result.now in
    let there = seat-there seat_view r.stripes.items _ r.locks.items r.caller r.spare r.last r.begun r.bios p c.pass.view_is i m c.requires.of x cell c.index_mut.ensures.value c.range_cell-cell.ensures in
    let stand : StandAt m p i cell (seat_view x) = stands-at seat_view r.stripes.items _ r.locks.items r.caller r.spare r.last r.begun r.bios p c.pass.view_is i m c.requires.of x cell c.index_mut.ensures.value c.range_cell-cell.ensures in
    let own : (seat_view x).cell ≡ cell.cell = stands-in seat_view r.stripes.items _ r.locks.items r.caller r.spare r.last r.begun r.bios p c.pass.view_is i m c.requires.of x cell c.index_mut.ensures.value c.range_cell-cell.ensures in
    let claims : seat_claims x ≡ claims_of p = same-at seat_claims r.stripes.items (own_claims r.caller r.spare) i x c.pass.invariant.0 there ∙ ap claims_of c.pass.view_is in
    let y = c.split-seat.new.seat in
    let kept : seat_view y ≡ kept_part (seat_view x) 1 = c.split-seat.ensures.kept in
    let same : (seat_view y).cell ≡ (seat_view x).cell = ap (λ (s : SeatView Entry). s.cell) kept in
    let pass_is = seat-set seat_view r.stripes.items _ r.locks.items r.caller r.spare r.last r.begun r.bios p c.pass.view_is i y in
    let given : seat_view c.split-seat.result ≡ new_part (seat_view x) 1 = c.split-seat.ensures.given in
    let made = c.split-seat.ensures.claims.1 in
    let caller : (seat_claims c.split-seat.result).caller ≡ p.caller = ap (λ (k : ClaimsView). k.caller) made ∙ ap (λ (k : ClaimsView). k.caller) claims in
    let free : (seat_claims c.split-seat.result).held ≡ None = ap (λ (k : ClaimsView). k.held) made in
    let seen : (seat_view x).seen ≡ (seat_view y).seen = sym (ap (λ (s : SeatView Entry). s.seen) kept) in
    let loan : IsLoanSeat (seat_view y) (seat_view c.split-seat.result) = subst (IsLoanSeat (seat_view y)) (sym given) (record { cell = sym same; begins = subst (Begins (seat_view x).seen) seen (begins-self (seat_view x).seen); made = refl; share = refl }) in
    subst (λ q. IsTicketOf q (ticket_view i (seat_view c.split-seat.result) (seat_claims c.split-seat.result))) (sym pass_is)
    (record { caller = caller; seat = seat_view y; here = set-same p.stripes i (seat_view x) (seat_view y) stand.seat_is; loan = loan })

pub returns-clause-tickets : goal.returns-clause-tickets
returns-clause-tickets c =
    let r = c.pass.inside in
    let m : MountView = c.args.self.now in
    let p : PassView = c.args.pass.now in
    let i = c.stripe-stripe.result in
    let x = c.index_mut.result.now in
    let cell = cell_view c.range_cell-cell.result.now in
    let there = seat-there seat_view r.stripes.items _ r.locks.items r.caller r.spare r.last r.begun r.bios p c.pass.view_is i m c.requires.of x cell c.index_mut.ensures.value c.range_cell-cell.ensures in
    let stand : StandAt m p i cell (seat_view x) = stands-at seat_view r.stripes.items _ r.locks.items r.caller r.spare r.last r.begun r.bios p c.pass.view_is i m c.requires.of x cell c.index_mut.ensures.value c.range_cell-cell.ensures in
    let own : (seat_view x).cell ≡ cell.cell = stands-in seat_view r.stripes.items _ r.locks.items r.caller r.spare r.last r.begun r.bios p c.pass.view_is i m c.requires.of x cell c.index_mut.ensures.value c.range_cell-cell.ensures in
    let claims : seat_claims x ≡ claims_of p = same-at seat_claims r.stripes.items (own_claims r.caller r.spare) i x c.pass.invariant.0 there ∙ ap claims_of c.pass.view_is in
    let y = c.split-seat.new.seat in
    let kept : seat_view y ≡ kept_part (seat_view x) 1 = c.split-seat.ensures.kept in
    let same : (seat_view y).cell ≡ (seat_view x).cell = ap (λ (s : SeatView Entry). s.cell) kept in
    let pass_is = seat-set seat_view r.stripes.items _ r.locks.items r.caller r.spare r.last r.begun r.bios p c.pass.view_is i y in
    let seen : (seat_view x).seen ≡ (seat_view y).seen = sym (ap (λ (s : SeatView Entry). s.seen) kept) in
    subst (KeepsTickets p) (sym pass_is) (tickets-with_seat p i (seat_view x) (seat_view y) stand.seat_is same (subst (Begins (seat_view x).seen) seen (begins-self (seat_view x).seen)))
