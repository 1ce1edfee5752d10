use Rattle.std.proofs.Common.{◌≡◌, None, ap, ◌∙◌, sym, subst}
use Rattle.turn_cell.specs.Seats.{cell_view, seat_claims, seat_view}
use Rattle.range_core.specs.ClaimsView.{ClaimsView}
use Rattle.mount_parts.specs.MountView.{MountView}
use Rattle.mini_fs.specs.PassView.{PassView, IsPassOf, claims_of, own_claims}
use Rattle.mini_fs.specs.TicketView.{TicketView, ticket_view}
use Rattle.mini_fs.specs.Tickets.{IsLoanSeat, IsTicketOf, KeepsTickets, lent_claims, ticket_claims, with_held}
use Rattle.mini_fs.specs.Turns.{StandAt, with_seat}
use Rattle.mini_fs.proofs.Loans.{turned-begins, turned-claims, loan-at, new-loan}
use Rattle.mount_parts.proofs.Places.{same-at, set-same}
use Rattle.mini_fs.proofs.Seats.{of-with_seat, seat-set, seat-there, stands-at, stands-in, tickets-with_seat}
use Rattle.mini_fs.proofs.mount.Mount.lent_turn.Goals as goal

pub turn_with-seat-requires-clause-cell : goal.turn_with-seat-requires-clause-cell
turn_with-seat-requires-clause-cell g c =
    let r = c.pass.inside in
    let m : MountView = c.args.self.now in
    let p : PassView = c.args.pass.now in
    let i = c.ticket.inside.stripe in
    let x = c.index_mut.result.now in
    let cell = cell_view c.range_cell-cell.result.now in
    let there = seat-there seat_view r.stripes.items _ r.locks.items r.caller r.spare r.last r.begun r.bios p c.pass.view_is i m c.requires.of x cell c.index_mut.ensures.value c.range_cell-cell.ensures in
    let stand : StandAt m p i cell (seat_view x) = stands-at seat_view r.stripes.items _ r.locks.items r.caller r.spare r.last r.begun r.bios p c.pass.view_is i m c.requires.of x cell c.index_mut.ensures.value c.range_cell-cell.ensures in
    let own : (seat_view x).cell ≡ cell.cell = stands-in seat_view r.stripes.items _ r.locks.items r.caller r.spare r.last r.begun r.bios p c.pass.view_is i m c.requires.of x cell c.index_mut.ensures.value c.range_cell-cell.ensures in
    let claims : seat_claims x ≡ claims_of p = same-at seat_claims r.stripes.items (own_claims r.caller r.spare) i x c.pass.invariant.0 there ∙ ap claims_of c.pass.view_is in
    let ts = c.ticket.inside.seat in
    let t : TicketView = ticket_view i (seat_view ts) (seat_claims ts) in
    let is : IsTicketOf p t = subst (IsTicketOf p) (sym c.ticket.view_is) c.requires.ticket in
    let loan : IsLoanSeat (seat_view x) (seat_view ts) = loan-at p t (seat_view x) is stand.seat_is in
    let carries : seat_claims ts ≡ ticket_claims (seat_claims x).caller (seat_claims ts).held = c.ticket.invariant ∙ ap (λ k. ticket_claims k (seat_claims ts).held) (is.caller ∙ sym (ap (λ (k : ClaimsView). k.caller) claims)) in
    let free : (seat_claims x).held ≡ None = ap (λ (k : ClaimsView). k.held) claims in
    own

pub turn_with-seat-requires-clause-free : goal.turn_with-seat-requires-clause-free
turn_with-seat-requires-clause-free g c =
    let r = c.pass.inside in
    let m : MountView = c.args.self.now in
    let p : PassView = c.args.pass.now in
    let i = c.ticket.inside.stripe in
    let x = c.index_mut.result.now in
    let cell = cell_view c.range_cell-cell.result.now in
    let there = seat-there seat_view r.stripes.items _ r.locks.items r.caller r.spare r.last r.begun r.bios p c.pass.view_is i m c.requires.of x cell c.index_mut.ensures.value c.range_cell-cell.ensures in
    let stand : StandAt m p i cell (seat_view x) = stands-at seat_view r.stripes.items _ r.locks.items r.caller r.spare r.last r.begun r.bios p c.pass.view_is i m c.requires.of x cell c.index_mut.ensures.value c.range_cell-cell.ensures in
    let own : (seat_view x).cell ≡ cell.cell = stands-in seat_view r.stripes.items _ r.locks.items r.caller r.spare r.last r.begun r.bios p c.pass.view_is i m c.requires.of x cell c.index_mut.ensures.value c.range_cell-cell.ensures in
    let claims : seat_claims x ≡ claims_of p = same-at seat_claims r.stripes.items (own_claims r.caller r.spare) i x c.pass.invariant.0 there ∙ ap claims_of c.pass.view_is in
    let ts = c.ticket.inside.seat in
    let t : TicketView = ticket_view i (seat_view ts) (seat_claims ts) in
    let is : IsTicketOf p t = subst (IsTicketOf p) (sym c.ticket.view_is) c.requires.ticket in
    let loan : IsLoanSeat (seat_view x) (seat_view ts) = loan-at p t (seat_view x) is stand.seat_is in
    let carries : seat_claims ts ≡ ticket_claims (seat_claims x).caller (seat_claims ts).held = c.ticket.invariant ∙ ap (λ k. ticket_claims k (seat_claims ts).held) (is.caller ∙ sym (ap (λ (k : ClaimsView). k.caller) claims)) in
    let free : (seat_claims x).held ≡ None = ap (λ (k : ClaimsView). k.held) claims in
    free

pub turn_with-seat-requires-clause-loan : goal.turn_with-seat-requires-clause-loan
turn_with-seat-requires-clause-loan g c =
    let r = c.pass.inside in
    let m : MountView = c.args.self.now in
    let p : PassView = c.args.pass.now in
    let i = c.ticket.inside.stripe in
    let x = c.index_mut.result.now in
    let cell = cell_view c.range_cell-cell.result.now in
    let there = seat-there seat_view r.stripes.items _ r.locks.items r.caller r.spare r.last r.begun r.bios p c.pass.view_is i m c.requires.of x cell c.index_mut.ensures.value c.range_cell-cell.ensures in
    let stand : StandAt m p i cell (seat_view x) = stands-at seat_view r.stripes.items _ r.locks.items r.caller r.spare r.last r.begun r.bios p c.pass.view_is i m c.requires.of x cell c.index_mut.ensures.value c.range_cell-cell.ensures in
    let own : (seat_view x).cell ≡ cell.cell = stands-in seat_view r.stripes.items _ r.locks.items r.caller r.spare r.last r.begun r.bios p c.pass.view_is i m c.requires.of x cell c.index_mut.ensures.value c.range_cell-cell.ensures in
    let claims : seat_claims x ≡ claims_of p = same-at seat_claims r.stripes.items (own_claims r.caller r.spare) i x c.pass.invariant.0 there ∙ ap claims_of c.pass.view_is in
    let ts = c.ticket.inside.seat in
    let t : TicketView = ticket_view i (seat_view ts) (seat_claims ts) in
    let is : IsTicketOf p t = subst (IsTicketOf p) (sym c.ticket.view_is) c.requires.ticket in
    let loan : IsLoanSeat (seat_view x) (seat_view ts) = loan-at p t (seat_view x) is stand.seat_is in
    let carries : seat_claims ts ≡ ticket_claims (seat_claims x).caller (seat_claims ts).held = c.ticket.invariant ∙ ap (λ k. ticket_claims k (seat_claims ts).held) (is.caller ∙ sym (ap (λ (k : ClaimsView). k.caller) claims)) in
    let free : (seat_claims x).held ≡ None = ap (λ (k : ClaimsView). k.held) claims in
    loan

pub turn_with-seat-requires-clause-carries : goal.turn_with-seat-requires-clause-carries
turn_with-seat-requires-clause-carries g c =
    let r = c.pass.inside in
    let m : MountView = c.args.self.now in
    let p : PassView = c.args.pass.now in
    let i = c.ticket.inside.stripe in
    let x = c.index_mut.result.now in
    let cell = cell_view c.range_cell-cell.result.now in
    let there = seat-there seat_view r.stripes.items _ r.locks.items r.caller r.spare r.last r.begun r.bios p c.pass.view_is i m c.requires.of x cell c.index_mut.ensures.value c.range_cell-cell.ensures in
    let stand : StandAt m p i cell (seat_view x) = stands-at seat_view r.stripes.items _ r.locks.items r.caller r.spare r.last r.begun r.bios p c.pass.view_is i m c.requires.of x cell c.index_mut.ensures.value c.range_cell-cell.ensures in
    let own : (seat_view x).cell ≡ cell.cell = stands-in seat_view r.stripes.items _ r.locks.items r.caller r.spare r.last r.begun r.bios p c.pass.view_is i m c.requires.of x cell c.index_mut.ensures.value c.range_cell-cell.ensures in
    let claims : seat_claims x ≡ claims_of p = same-at seat_claims r.stripes.items (own_claims r.caller r.spare) i x c.pass.invariant.0 there ∙ ap claims_of c.pass.view_is in
    let ts = c.ticket.inside.seat in
    let t : TicketView = ticket_view i (seat_view ts) (seat_claims ts) in
    let is : IsTicketOf p t = subst (IsTicketOf p) (sym c.ticket.view_is) c.requires.ticket in
    let loan : IsLoanSeat (seat_view x) (seat_view ts) = loan-at p t (seat_view x) is stand.seat_is in
    let carries : seat_claims ts ≡ ticket_claims (seat_claims x).caller (seat_claims ts).held = c.ticket.invariant ∙ ap (λ k. ticket_claims k (seat_claims ts).held) (is.caller ∙ sym (ap (λ (k : ClaimsView). k.caller) claims)) in
    let free : (seat_claims x).held ≡ None = ap (λ (k : ClaimsView). k.held) claims in
    carries

pub turn_with-seat-requires-clause-ready : goal.turn_with-seat-requires-clause-ready
turn_with-seat-requires-clause-ready g c =
    let r = c.pass.inside in
    let m : MountView = c.args.self.now in
    let p : PassView = c.args.pass.now in
    let i = c.ticket.inside.stripe in
    let x = c.index_mut.result.now in
    let cell = cell_view c.range_cell-cell.result.now in
    let there = seat-there seat_view r.stripes.items _ r.locks.items r.caller r.spare r.last r.begun r.bios p c.pass.view_is i m c.requires.of x cell c.index_mut.ensures.value c.range_cell-cell.ensures in
    let stand : StandAt m p i cell (seat_view x) = stands-at seat_view r.stripes.items _ r.locks.items r.caller r.spare r.last r.begun r.bios p c.pass.view_is i m c.requires.of x cell c.index_mut.ensures.value c.range_cell-cell.ensures in
    let own : (seat_view x).cell ≡ cell.cell = stands-in seat_view r.stripes.items _ r.locks.items r.caller r.spare r.last r.begun r.bios p c.pass.view_is i m c.requires.of x cell c.index_mut.ensures.value c.range_cell-cell.ensures in
    let claims : seat_claims x ≡ claims_of p = same-at seat_claims r.stripes.items (own_claims r.caller r.spare) i x c.pass.invariant.0 there ∙ ap claims_of c.pass.view_is in
    let ts = c.ticket.inside.seat in
    let t : TicketView = ticket_view i (seat_view ts) (seat_claims ts) in
    let is : IsTicketOf p t = subst (IsTicketOf p) (sym c.ticket.view_is) c.requires.ticket in
    let loan : IsLoanSeat (seat_view x) (seat_view ts) = loan-at p t (seat_view x) is stand.seat_is in
    let carries : seat_claims ts ≡ ticket_claims (seat_claims x).caller (seat_claims ts).held = c.ticket.invariant ∙ ap (λ k. ticket_claims k (seat_claims ts).held) (is.caller ∙ sym (ap (λ (k : ClaimsView). k.caller) claims)) in
    let free : (seat_claims x).held ≡ None = ap (λ (k : ClaimsView). k.held) claims in
    let held : c.args.ticket.held ≡ (seat_claims ts).held = ap (λ (v : TicketView). v.held) (sym c.ticket.view_is) in
    let lent : lent_claims p c.args.ticket.held ≡ with_held (seat_claims x) (seat_claims ts).held = (λ j. with_held (sym claims j) (held j)) in
    let at : c.args.ticket.stripe ≡ i = ap (λ (v : TicketView). v.stripe) (sym c.ticket.view_is) in
    subst (λ (k : ClaimsView). g.C.Change.ready c.args.change.now cell.opening (seat_view x).seen k) lent (c.requires.ready cell (seat_view x) (subst (λ k. StandAt m p k cell (seat_view x)) (sym at) stand))

pub returns-clause-of : goal.returns-clause-of
returns-clause-of g c =
    let r = c.pass.inside in
    let m : MountView = c.args.self.now in
    let p : PassView = c.args.pass.now in
    let i = c.ticket.inside.stripe in
    let x = c.index_mut.result.now in
    let cell = cell_view c.range_cell-cell.result.now in
    let there = seat-there seat_view r.stripes.items _ r.locks.items r.caller r.spare r.last r.begun r.bios p c.pass.view_is i m c.requires.of x cell c.index_mut.ensures.value c.range_cell-cell.ensures in
    let stand : StandAt m p i cell (seat_view x) = stands-at seat_view r.stripes.items _ r.locks.items r.caller r.spare r.last r.begun r.bios p c.pass.view_is i m c.requires.of x cell c.index_mut.ensures.value c.range_cell-cell.ensures in
    let own : (seat_view x).cell ≡ cell.cell = stands-in seat_view r.stripes.items _ r.locks.items r.caller r.spare r.last r.begun r.bios p c.pass.view_is i m c.requires.of x cell c.index_mut.ensures.value c.range_cell-cell.ensures in
    let claims : seat_claims x ≡ claims_of p = same-at seat_claims r.stripes.items (own_claims r.caller r.spare) i x c.pass.invariant.0 there ∙ ap claims_of c.pass.view_is in
    let ts = c.ticket.inside.seat in
    let t : TicketView = ticket_view i (seat_view ts) (seat_claims ts) in
    let is : IsTicketOf p t = subst (IsTicketOf p) (sym c.ticket.view_is) c.requires.ticket in
    let loan : IsLoanSeat (seat_view x) (seat_view ts) = loan-at p t (seat_view x) is stand.seat_is in
    let carries : seat_claims ts ≡ ticket_claims (seat_claims x).caller (seat_claims ts).held = c.ticket.invariant ∙ ap (λ k. ticket_claims k (seat_claims ts).held) (is.caller ∙ sym (ap (λ (k : ClaimsView). k.caller) claims)) in
    let free : (seat_claims x).held ≡ None = ap (λ (k : ClaimsView). k.held) claims in
    let y = c.turn_with-seat.new.seat in
    let same : (seat_view y).cell ≡ (seat_view x).cell = c.turn_with-seat.ensures.same.0 in
    let pass_is = seat-set seat_view r.stripes.items _ r.locks.items r.caller r.spare r.last r.begun r.bios p c.pass.view_is i y in
    subst (IsPassOf m) (sym pass_is) (of-with_seat p i (seat_view x) (seat_view y) stand.seat_is same m c.requires.of)

pub returns-clause-turned : goal.returns-clause-turned
returns-clause-turned g c =
    let r = c.pass.inside in
    let m : MountView = c.args.self.now in
    let p : PassView = c.args.pass.now in
    let i = c.ticket.inside.stripe in
    let x = c.index_mut.result.now in
    let cell = cell_view c.range_cell-cell.result.now in
    let there = seat-there seat_view r.stripes.items _ r.locks.items r.caller r.spare r.last r.begun r.bios p c.pass.view_is i m c.requires.of x cell c.index_mut.ensures.value c.range_cell-cell.ensures in
    let stand : StandAt m p i cell (seat_view x) = stands-at seat_view r.stripes.items _ r.locks.items r.caller r.spare r.last r.begun r.bios p c.pass.view_is i m c.requires.of x cell c.index_mut.ensures.value c.range_cell-cell.ensures in
    let own : (seat_view x).cell ≡ cell.cell = stands-in seat_view r.stripes.items _ r.locks.items r.caller r.spare r.last r.begun r.bios p c.pass.view_is i m c.requires.of x cell c.index_mut.ensures.value c.range_cell-cell.ensures in
    let claims : seat_claims x ≡ claims_of p = same-at seat_claims r.stripes.items (own_claims r.caller r.spare) i x c.pass.invariant.0 there ∙ ap claims_of c.pass.view_is in
    let ts = c.ticket.inside.seat in
    let t : TicketView = ticket_view i (seat_view ts) (seat_claims ts) in
    let is : IsTicketOf p t = subst (IsTicketOf p) (sym c.ticket.view_is) c.requires.ticket in
    let loan : IsLoanSeat (seat_view x) (seat_view ts) = loan-at p t (seat_view x) is stand.seat_is in
    let carries : seat_claims ts ≡ ticket_claims (seat_claims x).caller (seat_claims ts).held = c.ticket.invariant ∙ ap (λ k. ticket_claims k (seat_claims ts).held) (is.caller ∙ sym (ap (λ (k : ClaimsView). k.caller) claims)) in
    let free : (seat_claims x).held ≡ None = ap (λ (k : ClaimsView). k.held) claims in
    let y = c.turn_with-seat.new.seat in
    let same : (seat_view y).cell ≡ (seat_view x).cell = c.turn_with-seat.ensures.same.0 in
    let pass_is = seat-set seat_view r.stripes.items _ r.locks.items r.caller r.spare r.last r.begun r.bios p c.pass.view_is i y in
    let held : c.args.ticket.held ≡ (seat_claims ts).held = ap (λ (v : TicketView). v.held) (sym c.ticket.view_is) in
    let lent : lent_claims p c.args.ticket.held ≡ with_held (seat_claims x) (seat_claims ts).held = (λ j. with_held (sym claims j) (held j)) in
    let at : c.args.ticket.stripe ≡ i = ap (λ (v : TicketView). v.stripe) (sym c.ticket.view_is) in
    let back = c.turn_with-seat.result.0 in
    let left : with_held (seat_claims x) (seat_claims back).held ≡ lent_claims p (seat_claims back).held = ap (λ (k : ClaimsView). with_held k (seat_claims back).held) claims in
    (record {
      cell = cell;
      before = seat_view x;
      after = seat_view y;
      stand = subst (λ k. StandAt m p k cell (seat_view x)) (sym at) stand;
      pass_is = pass_is ∙ ap (λ k. with_seat p k (seat_view y)) (sym at);
      same_cell = same;
      same_share = c.turn_with-seat.ensures.same.1;
      refused = c.turn_with-seat.ensures.refused;
      turned = turned-claims (λ k l history value next entry. g.C.Change.does c.args.change.now cell.opening history value k c.turn_with-seat.new.change next l c.turn_with-seat.result.1 entry) cell.opening _ _ _ _ (seat_view x) (seat_view y) (sym lent) left c.turn_with-seat.ensures.turned;
    })

pub returns-clause-ticket : goal.returns-clause-ticket
returns-clause-ticket g c =
    let r = c.pass.inside in
    let m : MountView = c.args.self.now in
    let p : PassView = c.args.pass.now in
    let i = c.ticket.inside.stripe in
    let x = c.index_mut.result.now in
    let cell = cell_view c.range_cell-cell.result.now in
    let there = seat-there seat_view r.stripes.items _ r.locks.items r.caller r.spare r.last r.begun r.bios p c.pass.view_is i m c.requires.of x cell c.index_mut.ensures.value c.range_cell-cell.ensures in
    let stand : StandAt m p i cell (seat_view x) = stands-at seat_view r.stripes.items _ r.locks.items r.caller r.spare r.last r.begun r.bios p c.pass.view_is i m c.requires.of x cell c.index_mut.ensures.value c.range_cell-cell.ensures in
    let own : (seat_view x).cell ≡ cell.cell = stands-in seat_view r.stripes.items _ r.locks.items r.caller r.spare r.last r.begun r.bios p c.pass.view_is i m c.requires.of x cell c.index_mut.ensures.value c.range_cell-cell.ensures in
    let claims : seat_claims x ≡ claims_of p = same-at seat_claims r.stripes.items (own_claims r.caller r.spare) i x c.pass.invariant.0 there ∙ ap claims_of c.pass.view_is in
    let ts = c.ticket.inside.seat in
    let t : TicketView = ticket_view i (seat_view ts) (seat_claims ts) in
    let is : IsTicketOf p t = subst (IsTicketOf p) (sym c.ticket.view_is) c.requires.ticket in
    let loan : IsLoanSeat (seat_view x) (seat_view ts) = loan-at p t (seat_view x) is stand.seat_is in
    let carries : seat_claims ts ≡ ticket_claims (seat_claims x).caller (seat_claims ts).held = c.ticket.invariant ∙ ap (λ k. ticket_claims k (seat_claims ts).held) (is.caller ∙ sym (ap (λ (k : ClaimsView). k.caller) claims)) in
    let free : (seat_claims x).held ≡ None = ap (λ (k : ClaimsView). k.held) claims in
    let y = c.turn_with-seat.new.seat in
    let same : (seat_view y).cell ≡ (seat_view x).cell = c.turn_with-seat.ensures.same.0 in
    let pass_is = seat-set seat_view r.stripes.items _ r.locks.items r.caller r.spare r.last r.begun r.bios p c.pass.view_is i y in
    let back = c.turn_with-seat.result.0 in
    let caller : (seat_claims back).caller ≡ p.caller = ap (λ (k : ClaimsView). k.caller) c.turn_with-seat.ensures.carries ∙ ap (λ (k : ClaimsView). k.caller) claims in
    subst (λ q. IsTicketOf q (ticket_view i (seat_view back) (seat_claims back))) (sym pass_is)
    (record { caller = caller; seat = seat_view y; here = set-same p.stripes i (seat_view x) (seat_view y) stand.seat_is; loan = new-loan (seat_view y) (seat_view back) c.turn_with-seat.ensures.loan })

pub returns-clause-tickets : goal.returns-clause-tickets
returns-clause-tickets g c =
    let r = c.pass.inside in
    let m : MountView = c.args.self.now in
    let p : PassView = c.args.pass.now in
    let i = c.ticket.inside.stripe in
    let x = c.index_mut.result.now in
    let cell = cell_view c.range_cell-cell.result.now in
    let there = seat-there seat_view r.stripes.items _ r.locks.items r.caller r.spare r.last r.begun r.bios p c.pass.view_is i m c.requires.of x cell c.index_mut.ensures.value c.range_cell-cell.ensures in
    let stand : StandAt m p i cell (seat_view x) = stands-at seat_view r.stripes.items _ r.locks.items r.caller r.spare r.last r.begun r.bios p c.pass.view_is i m c.requires.of x cell c.index_mut.ensures.value c.range_cell-cell.ensures in
    let own : (seat_view x).cell ≡ cell.cell = stands-in seat_view r.stripes.items _ r.locks.items r.caller r.spare r.last r.begun r.bios p c.pass.view_is i m c.requires.of x cell c.index_mut.ensures.value c.range_cell-cell.ensures in
    let claims : seat_claims x ≡ claims_of p = same-at seat_claims r.stripes.items (own_claims r.caller r.spare) i x c.pass.invariant.0 there ∙ ap claims_of c.pass.view_is in
    let ts = c.ticket.inside.seat in
    let t : TicketView = ticket_view i (seat_view ts) (seat_claims ts) in
    let is : IsTicketOf p t = subst (IsTicketOf p) (sym c.ticket.view_is) c.requires.ticket in
    let loan : IsLoanSeat (seat_view x) (seat_view ts) = loan-at p t (seat_view x) is stand.seat_is in
    let carries : seat_claims ts ≡ ticket_claims (seat_claims x).caller (seat_claims ts).held = c.ticket.invariant ∙ ap (λ k. ticket_claims k (seat_claims ts).held) (is.caller ∙ sym (ap (λ (k : ClaimsView). k.caller) claims)) in
    let free : (seat_claims x).held ≡ None = ap (λ (k : ClaimsView). k.held) claims in
    let y = c.turn_with-seat.new.seat in
    let same : (seat_view y).cell ≡ (seat_view x).cell = c.turn_with-seat.ensures.same.0 in
    let pass_is = seat-set seat_view r.stripes.items _ r.locks.items r.caller r.spare r.last r.begun r.bios p c.pass.view_is i y in
    subst (KeepsTickets p) (sym pass_is)
    (tickets-with_seat p i (seat_view x) (seat_view y) stand.seat_is same (turned-begins _ _ _ _ (seat_view x) (seat_view y) c.turn_with-seat.ensures.turned))
