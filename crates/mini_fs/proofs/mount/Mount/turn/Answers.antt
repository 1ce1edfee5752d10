use Rattle.std.proofs.Common.{◌≡◌, ap, ◌∙◌, sym, subst}
use Rattle.turn_cell.specs.Seats.{cell_view, seat_claims, seat_view}
use Rattle.range_core.specs.ClaimsView.{ClaimsView}
use Rattle.mount_parts.specs.MountView.{MountView, stripe_at}
use Rattle.mini_fs.specs.PassView.{PassView, IsPassOf, claims_of, own_claims}
use Rattle.mini_fs.specs.Tickets.{KeepsTickets}
use Rattle.mini_fs.specs.Turns.{StandAt, with_seat}
use Rattle.mini_fs.proofs.Loans.{turned-begins, turned-claims}
use Rattle.mount_parts.proofs.Places.{same-at}
use Rattle.mini_fs.proofs.Seats.{of-with_seat, seat-set, seat-there, stands-at, stands-in, tickets-with_seat}
use Rattle.mini_fs.proofs.mount.Mount.turn.Goals as goal

pub turn-requires-clause-cell : goal.turn-requires-clause-cell
turn-requires-clause-cell g c =
    let r = c.pass.inside in
    stands-in seat_view r.stripes.items _ r.locks.items r.caller r.spare r.last r.begun r.bios c.args.pass.now c.pass.view_is c.stripe-stripe.result c.args.self.now c.requires.of c.index_mut.result.now (cell_view c.range_cell-cell.result.now) c.index_mut.ensures.value c.range_cell-cell.ensures

pub turn-requires-clause-ready : goal.turn-requires-clause-ready
turn-requires-clause-ready g c =
    let r = c.pass.inside in
    let m : MountView = c.args.self.now in
    let p : PassView = c.args.pass.now in
    let i = c.stripe-stripe.result in
    let x = c.index_mut.result.now in
    let cell = cell_view c.range_cell-cell.result.now in
    let stand : StandAt m p i cell (seat_view x) = stands-at seat_view r.stripes.items _ r.locks.items r.caller r.spare r.last r.begun r.bios p c.pass.view_is i m c.requires.of x cell c.index_mut.ensures.value c.range_cell-cell.ensures in
    let stood : StandAt m p (stripe_at m c.args.file c.args.b) cell (seat_view x) = subst (λ k. StandAt m p k cell (seat_view x)) c.stripe-stripe.ensures.is stand in
    let claims : seat_claims x ≡ claims_of p = same-at seat_claims r.stripes.items (own_claims r.caller r.spare) i x c.pass.invariant.0 (seat-there seat_view r.stripes.items _ r.locks.items r.caller r.spare r.last r.begun r.bios p c.pass.view_is i m c.requires.of x cell c.index_mut.ensures.value c.range_cell-cell.ensures) ∙ ap claims_of c.pass.view_is in
    subst (λ (k : ClaimsView). g.C.Change.ready c.args.change.now cell.opening (seat_view x).seen k) (sym claims) (c.requires.ready cell (seat_view x) stood)

pub returns-clause-of : goal.returns-clause-of
returns-clause-of g c =
    let r = c.pass.inside in
    let m : MountView = c.args.self.now in
    let p : PassView = c.args.pass.now in
    let i = c.stripe-stripe.result in
    let x = c.index_mut.result.now in
    let y = c.turn.new.seat in
    let stand = stands-at seat_view r.stripes.items _ r.locks.items r.caller r.spare r.last r.begun r.bios p c.pass.view_is i m c.requires.of x (cell_view c.range_cell-cell.result.now) c.index_mut.ensures.value c.range_cell-cell.ensures in
    subst (IsPassOf m) (sym (seat-set seat_view r.stripes.items _ r.locks.items r.caller r.spare r.last r.begun r.bios p c.pass.view_is i y)) (of-with_seat p i (seat_view x) (seat_view y) stand.seat_is c.turn.ensures.same.0 m c.requires.of)

pub returns-clause-turned : goal.returns-clause-turned
returns-clause-turned g c =
    let r = c.pass.inside in
    let m : MountView = c.args.self.now in
    let p : PassView = c.args.pass.now in
    let i = c.stripe-stripe.result in
    let x = c.index_mut.result.now in
    let y = c.turn.new.seat in
    let cell = cell_view c.range_cell-cell.result.now in
    let there = seat-there seat_view r.stripes.items _ r.locks.items r.caller r.spare r.last r.begun r.bios p c.pass.view_is i m c.requires.of x cell c.index_mut.ensures.value c.range_cell-cell.ensures in
    let stand : StandAt m p i cell (seat_view x) = stands-at seat_view r.stripes.items _ r.locks.items r.caller r.spare r.last r.begun r.bios p c.pass.view_is i m c.requires.of x cell c.index_mut.ensures.value c.range_cell-cell.ensures in
    let claims : seat_claims x ≡ claims_of p = same-at seat_claims r.stripes.items (own_claims r.caller r.spare) i x c.pass.invariant.0 there ∙ ap claims_of c.pass.view_is in
    let t = c.turn.ensures.turned in
    let left : seat_claims y ≡ claims_of p = c.requires.leaves cell.opening _ t.value t.next (seat_claims x) (seat_claims y) c.turn.new.change c.turn.result t.entry t.done ∙ claims in
    (record {
      cell = cell;
      before = seat_view x;
      after = seat_view y;
      stand = subst (λ k. StandAt m p k cell (seat_view x)) c.stripe-stripe.ensures.is stand;
      pass_is = seat-set seat_view r.stripes.items _ r.locks.items r.caller r.spare r.last r.begun r.bios p c.pass.view_is i y ∙ ap (λ k. with_seat p k (seat_view y)) c.stripe-stripe.ensures.is;
      same_cell = c.turn.ensures.same.0;
      same_share = c.turn.ensures.same.1;
      refused = c.turn.ensures.refused;
      turned = turned-claims (λ k l history value next entry. g.C.Change.does c.args.change.now cell.opening history value k c.turn.new.change next l c.turn.result entry) cell.opening (seat_claims x) (seat_claims y) (claims_of p) (claims_of p) (seat_view x) (seat_view y) claims left t;
    })

pub returns-clause-tickets : goal.returns-clause-tickets
returns-clause-tickets g c =
    let r = c.pass.inside in
    let p : PassView = c.args.pass.now in
    let i = c.stripe-stripe.result in
    let x = c.index_mut.result.now in
    let y = c.turn.new.seat in
    let stand = stands-at seat_view r.stripes.items _ r.locks.items r.caller r.spare r.last r.begun r.bios p c.pass.view_is i c.args.self.now c.requires.of x (cell_view c.range_cell-cell.result.now) c.index_mut.ensures.value c.range_cell-cell.ensures in
    subst (KeepsTickets p) (sym (seat-set seat_view r.stripes.items _ r.locks.items r.caller r.spare r.last r.begun r.bios p c.pass.view_is i y))
    (tickets-with_seat p i (seat_view x) (seat_view y) stand.seat_is c.turn.ensures.same.0 (turned-begins _ _ _ _ (seat_view x) (seat_view y) c.turn.ensures.turned))
