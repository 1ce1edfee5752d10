use Rattle.std.proofs.Common.{◌≡◌, [], map, set, Some, ap, ◌∙◌, sym, subst, append-nil}
use Rattle.std.specs.Prelude.{slice_get}
use Rattle.turn_cell.specs.Seats.{cell_view, seat_claims, seat_view}
use Rattle.range_core.specs.ClaimsView.{ClaimsView}
use Rattle.mount_parts.specs.MountView.{MountView, stripe_at}
use Rattle.mini_fs.specs.PassView.{PassView, IsPassOf, claims_of, own_claims, pass_view, refused_at, refused_in, size_seat}
use Rattle.mini_fs.specs.Tickets.{KeepsTickets}
use Rattle.mini_fs.specs.Turns.{StandAt, with_seat}
use Rattle.mini_fs.proofs.Loans.{turned-claims}
use Rattle.mount_parts.proofs.Places.{same-at, set-same}
use Rattle.mini_fs.proofs.Seats.{of-with_seat, seat-set, seat-there, stands-at, stands-in, tickets-with_seat}
use Rattle.mini_fs.proofs.Tries.{if-err, if-ok, tried-begins}
use Rattle.mini_fs.proofs.mount.Mount.try_turn.Goals as goal

pub try_turn-requires-clause-cell : goal.try_turn-requires-clause-cell
try_turn-requires-clause-cell g c =
    let r = c.pass.inside in
    stands-in seat_view r.stripes.items _ r.locks.items r.caller r.spare r.last r.begun r.bios c.args.pass.now c.pass.view_is c.stripe-stripe.result c.args.self.now c.requires.of c.index_mut.result.now (cell_view c.range_cell-cell.result.now) c.index_mut.ensures.value c.range_cell-cell.ensures

pub try_turn-requires-clause-ready : goal.try_turn-requires-clause-ready
try_turn-requires-clause-ready g c =
    let r = c.pass.inside in
    let m : MountView = c.args.self.now in
    let p : PassView = c.args.pass.now in
    let i = c.stripe-stripe.result in
    let x = c.index_mut.result.now in
    let cell = cell_view c.range_cell-cell.result.now in
    let there = seat-there seat_view r.stripes.items _ r.locks.items r.caller r.spare r.last r.begun r.bios p c.pass.view_is i m c.requires.of x cell c.index_mut.ensures.value c.range_cell-cell.ensures in
    let stand : StandAt m p i cell (seat_view x) = stands-at seat_view r.stripes.items _ r.locks.items r.caller r.spare r.last r.begun r.bios p c.pass.view_is i m c.requires.of x cell c.index_mut.ensures.value c.range_cell-cell.ensures in
    let claims : seat_claims x ≡ claims_of p = same-at seat_claims r.stripes.items (own_claims r.caller r.spare) i x c.pass.invariant.0 there ∙ ap claims_of c.pass.view_is in
    let stood : StandAt m p (stripe_at m c.args.file c.args.b) cell (seat_view x) = subst (λ k. StandAt m p k cell (seat_view x)) c.stripe-stripe.ensures.is stand in
    subst (λ (k : ClaimsView). g.C.Change.ready c.args.change.now cell.opening (seat_view x).seen k) (sym claims) (c.requires.ready cell (seat_view x) stood)

pub returns-clause-of : goal.returns-clause-of
returns-clause-of g c =
    let r = c.pass.inside in
    let m : MountView = c.args.self.now in
    let p : PassView = c.args.pass.now in
    let i = c.stripe-stripe.result in
    let x = c.index_mut.result.now in
    let cell = cell_view c.range_cell-cell.result.now in
    let there = seat-there seat_view r.stripes.items _ r.locks.items r.caller r.spare r.last r.begun r.bios p c.pass.view_is i m c.requires.of x cell c.index_mut.ensures.value c.range_cell-cell.ensures in
    let stand : StandAt m p i cell (seat_view x) = stands-at seat_view r.stripes.items _ r.locks.items r.caller r.spare r.last r.begun r.bios p c.pass.view_is i m c.requires.of x cell c.index_mut.ensures.value c.range_cell-cell.ensures in
    let claims : seat_claims x ≡ claims_of p = same-at seat_claims r.stripes.items (own_claims r.caller r.spare) i x c.pass.invariant.0 there ∙ ap claims_of c.pass.view_is in
    let y = c.try_turn.new.seat in
    let e = c.try_turn.ensures in
    let pass_is = seat-set seat_view r.stripes.items _ r.locks.items r.caller r.spare r.last r.begun r.bios p c.pass.view_is i y in
    subst (IsPassOf m) (sym pass_is) (of-with_seat p i (seat_view x) (seat_view y) stand.seat_is e.same.0 m c.requires.of)

pub returns-clause-turned : goal.returns-clause-turned
returns-clause-turned g c =
    let r = c.pass.inside in
    let m : MountView = c.args.self.now in
    let p : PassView = c.args.pass.now in
    let i = c.stripe-stripe.result in
    let x = c.index_mut.result.now in
    let cell = cell_view c.range_cell-cell.result.now in
    let there = seat-there seat_view r.stripes.items _ r.locks.items r.caller r.spare r.last r.begun r.bios p c.pass.view_is i m c.requires.of x cell c.index_mut.ensures.value c.range_cell-cell.ensures in
    let stand : StandAt m p i cell (seat_view x) = stands-at seat_view r.stripes.items _ r.locks.items r.caller r.spare r.last r.begun r.bios p c.pass.view_is i m c.requires.of x cell c.index_mut.ensures.value c.range_cell-cell.ensures in
    let claims : seat_claims x ≡ claims_of p = same-at seat_claims r.stripes.items (own_claims r.caller r.spare) i x c.pass.invariant.0 there ∙ ap claims_of c.pass.view_is in
    let y = c.try_turn.new.seat in
    let e = c.try_turn.ensures in
    let pass_is = seat-set seat_view r.stripes.items _ r.locks.items r.caller r.spare r.last r.begun r.bios p c.pass.view_is i y in
    if-ok _ _ _ c.try_turn.result (λ out t free.
    let left : seat_claims y ≡ claims_of p = c.requires.leaves cell.opening _ t.value t.next (seat_claims x) (seat_claims y) c.try_turn.new.change out t.entry t.done ∙ claims in
    (record {
      cell = cell;
      before = seat_view x;
      after = seat_view y;
      stand = subst (λ k. StandAt m p k cell (seat_view x)) c.stripe-stripe.ensures.is stand;
      pass_is = pass_is ∙ ap (λ k. with_seat p k (seat_view y)) c.stripe-stripe.ensures.is;
      same_cell = e.same.0;
      same_share = e.same.1;
      refused = ([], append-nil (seat_view x).refused ∙ sym free);
      turned = turned-claims (λ k l history value next entry. g.C.Change.does c.args.change.now cell.opening history value k c.try_turn.new.change next l out entry) cell.opening (seat_claims x) (seat_claims y) (claims_of p) (claims_of p) (seat_view x) (seat_view y) claims left t;
    })) e.turned e.free

pub returns-clause-free : goal.returns-clause-free
returns-clause-free g c =
    let r = c.pass.inside in
    let m : MountView = c.args.self.now in
    let p : PassView = c.args.pass.now in
    let i = c.stripe-stripe.result in
    let x = c.index_mut.result.now in
    let cell = cell_view c.range_cell-cell.result.now in
    let there = seat-there seat_view r.stripes.items _ r.locks.items r.caller r.spare r.last r.begun r.bios p c.pass.view_is i m c.requires.of x cell c.index_mut.ensures.value c.range_cell-cell.ensures in
    let stand : StandAt m p i cell (seat_view x) = stands-at seat_view r.stripes.items _ r.locks.items r.caller r.spare r.last r.begun r.bios p c.pass.view_is i m c.requires.of x cell c.index_mut.ensures.value c.range_cell-cell.ensures in
    let claims : seat_claims x ≡ claims_of p = same-at seat_claims r.stripes.items (own_claims r.caller r.spare) i x c.pass.invariant.0 there ∙ ap claims_of c.pass.view_is in
    let y = c.try_turn.new.seat in
    let e = c.try_turn.ensures in
    let pass_is = seat-set seat_view r.stripes.items _ r.locks.items r.caller r.spare r.last r.begun r.bios p c.pass.view_is i y in
    let at : refused_at p i ≡ (seat_view x).refused = ap refused_in stand.seat_is in
    let now = ap (λ (q : PassView). refused_at q i) pass_is ∙ ap refused_in (set-same p.stripes i (seat_view x) (seat_view y) stand.seat_is) in
    let q : PassView = pass_view (map seat_view (set r.stripes.items i y)) (map (λ s. size_seat (seat_view s) (seat_claims s)) r.sizes.items) r.locks.items r.caller r.spare r.last r.begun r.bios in
    let was : refused_at p i ≡ refused_at p (stripe_at m c.args.file c.args.b) = ap (refused_at p) c.stripe-stripe.ensures.is in
    if-ok _ _ _ c.try_turn.result (λ out free t. ap (refused_at q) (sym c.stripe-stripe.ensures.is) ∙ now ∙ free ∙ sym at ∙ was) e.free e.free

pub returns-clause-busy : goal.returns-clause-busy
returns-clause-busy g c =
    let r = c.pass.inside in
    let m : MountView = c.args.self.now in
    let p : PassView = c.args.pass.now in
    let i = c.stripe-stripe.result in
    let x = c.index_mut.result.now in
    let cell = cell_view c.range_cell-cell.result.now in
    let there = seat-there seat_view r.stripes.items _ r.locks.items r.caller r.spare r.last r.begun r.bios p c.pass.view_is i m c.requires.of x cell c.index_mut.ensures.value c.range_cell-cell.ensures in
    let stand : StandAt m p i cell (seat_view x) = stands-at seat_view r.stripes.items _ r.locks.items r.caller r.spare r.last r.begun r.bios p c.pass.view_is i m c.requires.of x cell c.index_mut.ensures.value c.range_cell-cell.ensures in
    let claims : seat_claims x ≡ claims_of p = same-at seat_claims r.stripes.items (own_claims r.caller r.spare) i x c.pass.invariant.0 there ∙ ap claims_of c.pass.view_is in
    let y = c.try_turn.new.seat in
    let e = c.try_turn.ensures in
    let pass_is = seat-set seat_view r.stripes.items _ r.locks.items r.caller r.spare r.last r.begun r.bios p c.pass.view_is i y in
    if-err _ _ c.try_turn.result (λ busy h.
    (record { before = seat_view x; after = seat_view y; here = subst (λ k. slice_get p.stripes k ≡ Some (seat_view x)) c.stripe-stripe.ensures.is stand.seat_is; found = h.0; pass_is = pass_is ∙ ap (λ k. with_seat p k (seat_view y)) c.stripe-stripe.ensures.is }, h.2)) e.refused

pub returns-clause-tickets : goal.returns-clause-tickets
returns-clause-tickets g c =
    let r = c.pass.inside in
    let m : MountView = c.args.self.now in
    let p : PassView = c.args.pass.now in
    let i = c.stripe-stripe.result in
    let x = c.index_mut.result.now in
    let cell = cell_view c.range_cell-cell.result.now in
    let there = seat-there seat_view r.stripes.items _ r.locks.items r.caller r.spare r.last r.begun r.bios p c.pass.view_is i m c.requires.of x cell c.index_mut.ensures.value c.range_cell-cell.ensures in
    let stand : StandAt m p i cell (seat_view x) = stands-at seat_view r.stripes.items _ r.locks.items r.caller r.spare r.last r.begun r.bios p c.pass.view_is i m c.requires.of x cell c.index_mut.ensures.value c.range_cell-cell.ensures in
    let claims : seat_claims x ≡ claims_of p = same-at seat_claims r.stripes.items (own_claims r.caller r.spare) i x c.pass.invariant.0 there ∙ ap claims_of c.pass.view_is in
    let y = c.try_turn.new.seat in
    let e = c.try_turn.ensures in
    let pass_is = seat-set seat_view r.stripes.items _ r.locks.items r.caller r.spare r.last r.begun r.bios p c.pass.view_is i y in
    subst (KeepsTickets p) (sym pass_is)
    (tickets-with_seat p i (seat_view x) (seat_view y) stand.seat_is e.same.0
    (tried-begins (λ out history value next entry. g.C.Change.does c.args.change.now cell.opening history value (seat_claims x) c.try_turn.new.change next (seat_claims y) out entry) (λ busy. (seat_claims y ≡ seat_claims x) × (c.try_turn.new.change ≡ c.args.change.now)) cell.opening (seat_claims x) (seat_claims y) (seat_view x) (seat_view y) c.try_turn.result e.turned
    (if-err _ _ c.try_turn.result (λ busy h. (h.0, (h.1, h.2))) e.refused)))
