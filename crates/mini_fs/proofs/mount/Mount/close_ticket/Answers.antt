use Rattle.std.proofs.Common.{◌≡◌, Some, None, ap, ◌∙◌, sym, subst}
use Rattle.std.specs.Prelude.{slice_get}
use Rattle.turn_cell.specs.Seats.{cell_view, seat_claims, seat_view}
use Rattle.turn_cell.specs.Views.{SeatView}
use Rattle.range_core.specs.ClaimsView.{ClaimsView, MayMerge}
use Rattle.range_core.specs.declared.entry.Entry.{Entry}
use Rattle.mount_parts.specs.MountView.{MountView}
use Rattle.mini_fs.specs.PassView.{PassView, IsPassOf, claims_of, own_claims}
use Rattle.mini_fs.specs.TicketView.{TicketView, ticket_view}
use Rattle.mini_fs.specs.Tickets.{IsLoanSeat, IsTicketOf, KeepsTickets, ticket_claims, with_share}
use Rattle.mini_fs.specs.Turns.{StandAt, with_seat}
use Rattle.mini_fs.proofs.Loans.{joined-loan, may-merge, loan-at}
use Rattle.mount_parts.proofs.Places.{same-at}
use Rattle.mini_fs.proofs.Seats.{of-with_seat, seat-set, seat-there, stands-at, stands-in, tickets-with_seat}
use Rattle.mini_fs.proofs.mount.Mount.close_ticket.Goals as goal

pub join-requires-clause-cell : goal.join-requires-clause-cell
join-requires-clause-cell c =
    let r = c.pass.inside in
    let m : MountView = c.args.self.now in
    let p : PassView = c.args.pass.now in
    let i = c.ticket.inside.stripe in
    let x = c.index_mut.result.now in
    let cell = cell_view c.range_cell-cell.result.now in
    let there = seat-there seat_view r.stripes.items _ r.locks.items r.caller r.spare r.last r.begun r.bios p c.pass.view_is i m c.requires.of x cell c.index_mut.ensures.value c.range_cell-cell.ensures in
    let stand : StandAt m p i cell (seat_view x) = stands-at seat_view r.stripes.items _ r.locks.items r.caller r.spare r.last r.begun r.bios p c.pass.view_is i m c.requires.of x cell c.index_mut.ensures.value c.range_cell-cell.ensures in
    let own : (seat_view x).cell ≡ cell.cell = stands-in seat_view r.stripes.items _ r.locks.items r.caller r.spare r.last r.begun r.bios p c.pass.view_is i m c.requires.of x cell c.index_mut.ensures.value c.range_cell-cell.ensures in
    let claims : seat_claims x ≡ claims_of p = same-at seat_claims r.stripes.items (own_claims r.caller r.spare) i x c.pass.invariant.0 there ∙ ap claims_of c.pass.view_is in
    let ts = c.ticket.inside.seat in
    let t : TicketView = ticket_view i (seat_view ts) (seat_claims ts) in
    let is : IsTicketOf p t = subst (IsTicketOf p) (sym c.ticket.view_is) c.requires.ticket in
    let loan : IsLoanSeat (seat_view x) (seat_view ts) = loan-at p t (seat_view x) is stand.seat_is in
    let carries : seat_claims ts ≡ ticket_claims (seat_claims x).caller (seat_claims ts).held = c.ticket.invariant ∙ ap (λ k. ticket_claims k (seat_claims ts).held) (is.caller ∙ sym (ap (λ (k : ClaimsView). k.caller) claims)) in
    let free : (seat_claims x).held ≡ None = ap (λ (k : ClaimsView). k.held) claims in
    (own, loan.cell ∙ own)

pub join-requires-clause-merge : goal.join-requires-clause-merge
join-requires-clause-merge c =
    let r = c.pass.inside in
    let m : MountView = c.args.self.now in
    let p : PassView = c.args.pass.now in
    let i = c.ticket.inside.stripe in
    let x = c.index_mut.result.now in
    let cell = cell_view c.range_cell-cell.result.now in
    let there = seat-there seat_view r.stripes.items _ r.locks.items r.caller r.spare r.last r.begun r.bios p c.pass.view_is i m c.requires.of x cell c.index_mut.ensures.value c.range_cell-cell.ensures in
    let stand : StandAt m p i cell (seat_view x) = stands-at seat_view r.stripes.items _ r.locks.items r.caller r.spare r.last r.begun r.bios p c.pass.view_is i m c.requires.of x cell c.index_mut.ensures.value c.range_cell-cell.ensures in
    let own : (seat_view x).cell ≡ cell.cell = stands-in seat_view r.stripes.items _ r.locks.items r.caller r.spare r.last r.begun r.bios p c.pass.view_is i m c.requires.of x cell c.index_mut.ensures.value c.range_cell-cell.ensures in
    let claims : seat_claims x ≡ claims_of p = same-at seat_claims r.stripes.items (own_claims r.caller r.spare) i x c.pass.invariant.0 there ∙ ap claims_of c.pass.view_is in
    let ts = c.ticket.inside.seat in
    let t : TicketView = ticket_view i (seat_view ts) (seat_claims ts) in
    let is : IsTicketOf p t = subst (IsTicketOf p) (sym c.ticket.view_is) c.requires.ticket in
    let loan : IsLoanSeat (seat_view x) (seat_view ts) = loan-at p t (seat_view x) is stand.seat_is in
    let carries : seat_claims ts ≡ ticket_claims (seat_claims x).caller (seat_claims ts).held = c.ticket.invariant ∙ ap (λ k. ticket_claims k (seat_claims ts).held) (is.caller ∙ sym (ap (λ (k : ClaimsView). k.caller) claims)) in
    let free : (seat_claims x).held ≡ None = ap (λ (k : ClaimsView). k.held) claims in
    subst (MayMerge (seat_claims x)) (sym carries) (may-merge (seat_claims x) (seat_claims ts).held free)

pub returns-clause-of : goal.returns-clause-of
returns-clause-of c =
    let r = c.pass.inside in
    let m : MountView = c.args.self.now in
    let p : PassView = c.args.pass.now in
    let i = c.ticket.inside.stripe in
    let x = c.index_mut.result.now in
    let cell = cell_view c.range_cell-cell.result.now in
    let there = seat-there seat_view r.stripes.items _ r.locks.items r.caller r.spare r.last r.begun r.bios p c.pass.view_is i m c.requires.of x cell c.index_mut.ensures.value c.range_cell-cell.ensures in
    let stand : StandAt m p i cell (seat_view x) = stands-at seat_view r.stripes.items _ r.locks.items r.caller r.spare r.last r.begun r.bios p c.pass.view_is i m c.requires.of x cell c.index_mut.ensures.value c.range_cell-cell.ensures in
    let own : (seat_view x).cell ≡ cell.cell = stands-in seat_view r.stripes.items _ r.locks.items r.caller r.spare r.last r.begun r.bios p c.pass.view_is i m c.requires.of x cell c.index_mut.ensures.value c.range_cell-cell.ensures in
    let claims : seat_claims x ≡ claims_of p = same-at seat_claims r.stripes.items (own_claims r.caller r.spare) i x c.pass.invariant.0 there ∙ ap claims_of c.pass.view_is in
    let ts = c.ticket.inside.seat in
    let t : TicketView = ticket_view i (seat_view ts) (seat_claims ts) in
    let is : IsTicketOf p t = subst (IsTicketOf p) (sym c.ticket.view_is) c.requires.ticket in
    let loan : IsLoanSeat (seat_view x) (seat_view ts) = loan-at p t (seat_view x) is stand.seat_is in
    let carries : seat_claims ts ≡ ticket_claims (seat_claims x).caller (seat_claims ts).held = c.ticket.invariant ∙ ap (λ k. ticket_claims k (seat_claims ts).held) (is.caller ∙ sym (ap (λ (k : ClaimsView). k.caller) claims)) in
    let free : (seat_claims x).held ≡ None = ap (λ (k : ClaimsView). k.held) claims in
    let y = c.join.new.into in
    let joins : seat_view y ≡ with_share (seat_view x) (seat_view ts).share = c.join.ensures.seat ∙ joined-loan (seat_view x) (seat_view ts) loan in
    let same : (seat_view y).cell ≡ (seat_view x).cell = ap (λ (s : SeatView Entry). s.cell) joins in
    let pass_is = seat-set seat_view r.stripes.items _ r.locks.items r.caller r.spare r.last r.begun r.bios p c.pass.view_is i y in
    subst (IsPassOf m) (sym pass_is) (of-with_seat p i (seat_view x) (seat_view y) stand.seat_is same m c.requires.of)

pub returns-clause-closed : goal.returns-clause-closed
returns-clause-closed c =
    let r = c.pass.inside in
    let m : MountView = c.args.self.now in
    let p : PassView = c.args.pass.now in
    let i = c.ticket.inside.stripe in
    let x = c.index_mut.result.now in
    let cell = cell_view c.range_cell-cell.result.now in
    let there = seat-there seat_view r.stripes.items _ r.locks.items r.caller r.spare r.last r.begun r.bios p c.pass.view_is i m c.requires.of x cell c.index_mut.ensures.value c.range_cell-cell.ensures in
    let stand : StandAt m p i cell (seat_view x) = stands-at seat_view r.stripes.items _ r.locks.items r.caller r.spare r.last r.begun r.bios p c.pass.view_is i m c.requires.of x cell c.index_mut.ensures.value c.range_cell-cell.ensures in
    let own : (seat_view x).cell ≡ cell.cell = stands-in seat_view r.stripes.items _ r.locks.items r.caller r.spare r.last r.begun r.bios p c.pass.view_is i m c.requires.of x cell c.index_mut.ensures.value c.range_cell-cell.ensures in
    let claims : seat_claims x ≡ claims_of p = same-at seat_claims r.stripes.items (own_claims r.caller r.spare) i x c.pass.invariant.0 there ∙ ap claims_of c.pass.view_is in
    let ts = c.ticket.inside.seat in
    let t : TicketView = ticket_view i (seat_view ts) (seat_claims ts) in
    let is : IsTicketOf p t = subst (IsTicketOf p) (sym c.ticket.view_is) c.requires.ticket in
    let loan : IsLoanSeat (seat_view x) (seat_view ts) = loan-at p t (seat_view x) is stand.seat_is in
    let carries : seat_claims ts ≡ ticket_claims (seat_claims x).caller (seat_claims ts).held = c.ticket.invariant ∙ ap (λ k. ticket_claims k (seat_claims ts).held) (is.caller ∙ sym (ap (λ (k : ClaimsView). k.caller) claims)) in
    let free : (seat_claims x).held ≡ None = ap (λ (k : ClaimsView). k.held) claims in
    let y = c.join.new.into in
    let joins : seat_view y ≡ with_share (seat_view x) (seat_view ts).share = c.join.ensures.seat ∙ joined-loan (seat_view x) (seat_view ts) loan in
    let same : (seat_view y).cell ≡ (seat_view x).cell = ap (λ (s : SeatView Entry). s.cell) joins in
    let pass_is = seat-set seat_view r.stripes.items _ r.locks.items r.caller r.spare r.last r.begun r.bios p c.pass.view_is i y in
    record {
      seat = seat_view x;
      here = subst (λ (v : TicketView). slice_get p.stripes v.stripe ≡ Some (seat_view x)) c.ticket.view_is stand.seat_is;
      pass_is = pass_is ∙ ap (with_seat p i) joins ∙ ap (λ (v : TicketView). with_seat p v.stripe (with_share (seat_view x) v.seat.share)) c.ticket.view_is;
    }

pub returns-clause-tickets : goal.returns-clause-tickets
returns-clause-tickets c =
    let r = c.pass.inside in
    let m : MountView = c.args.self.now in
    let p : PassView = c.args.pass.now in
    let i = c.ticket.inside.stripe in
    let x = c.index_mut.result.now in
    let cell = cell_view c.range_cell-cell.result.now in
    let there = seat-there seat_view r.stripes.items _ r.locks.items r.caller r.spare r.last r.begun r.bios p c.pass.view_is i m c.requires.of x cell c.index_mut.ensures.value c.range_cell-cell.ensures in
    let stand : StandAt m p i cell (seat_view x) = stands-at seat_view r.stripes.items _ r.locks.items r.caller r.spare r.last r.begun r.bios p c.pass.view_is i m c.requires.of x cell c.index_mut.ensures.value c.range_cell-cell.ensures in
    let own : (seat_view x).cell ≡ cell.cell = stands-in seat_view r.stripes.items _ r.locks.items r.caller r.spare r.last r.begun r.bios p c.pass.view_is i m c.requires.of x cell c.index_mut.ensures.value c.range_cell-cell.ensures in
    let claims : seat_claims x ≡ claims_of p = same-at seat_claims r.stripes.items (own_claims r.caller r.spare) i x c.pass.invariant.0 there ∙ ap claims_of c.pass.view_is in
    let ts = c.ticket.inside.seat in
    let t : TicketView = ticket_view i (seat_view ts) (seat_claims ts) in
    let is : IsTicketOf p t = subst (IsTicketOf p) (sym c.ticket.view_is) c.requires.ticket in
    let loan : IsLoanSeat (seat_view x) (seat_view ts) = loan-at p t (seat_view x) is stand.seat_is in
    let carries : seat_claims ts ≡ ticket_claims (seat_claims x).caller (seat_claims ts).held = c.ticket.invariant ∙ ap (λ k. ticket_claims k (seat_claims ts).held) (is.caller ∙ sym (ap (λ (k : ClaimsView). k.caller) claims)) in
    let free : (seat_claims x).held ≡ None = ap (λ (k : ClaimsView). k.held) claims in
    let y = c.join.new.into in
    let joins : seat_view y ≡ with_share (seat_view x) (seat_view ts).share = c.join.ensures.seat ∙ joined-loan (seat_view x) (seat_view ts) loan in
    let same : (seat_view y).cell ≡ (seat_view x).cell = ap (λ (s : SeatView Entry). s.cell) joins in
    let pass_is = seat-set seat_view r.stripes.items _ r.locks.items r.caller r.spare r.last r.begun r.bios p c.pass.view_is i y in
    subst (KeepsTickets p) (sym pass_is) (tickets-with_seat p i (seat_view x) (seat_view y) stand.seat_is same c.join.ensures.begins.0)
