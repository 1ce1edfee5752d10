use Rattle.std.proofs.Common.{◌≡◌, map, ap, ◌∙◌, sym, subst}
use Rattle.std.proofs.lemmas.List.Elements.{All-set}
use Rattle.turn_cell.specs.Seats.{cell_view, seat_claims, seat_view}
use Rattle.size_core.specs.ClaimsView.{ClaimsView}
use Rattle.mount_parts.specs.MountView.{MountView}
use Rattle.mini_fs.specs.PassView.{PassView, SizeSeat, IsPassOf, IsSizeSeat, size_claims, size_seat}
use Rattle.mini_fs.specs.SizeTurns.{StandAtSize, size_at, with_size, without_rooms}
use Rattle.mini_fs.specs.Tickets.{KeepsTickets}
use Rattle.mount_parts.proofs.Places.{all-at}
use Rattle.mini_fs.proofs.SizeSeats.{of-with_size, size-left, size-set, size-there, size-turned, sizes-at, sizes-in, tickets-with_size}
use Rattle.mini_fs.proofs.mount.Mount.size_turn.Goals as goal

pub turn-requires-clause-cell : goal.turn-requires-clause-cell
turn-requires-clause-cell g c =
    let r = c.pass.inside in
    let m : MountView = c.args.self.now in
    let p : PassView = c.args.pass.now in
    let i = c.size-at.result in
    let x = c.index_mut.result.now in
    let vx : SizeSeat = size_seat (seat_view x) (seat_claims x) in
    let cell = cell_view c.size_cell-cell.result.now in
    let there = size-there (λ s. size_seat (seat_view s) (seat_claims s)) (map seat_view r.stripes.items) r.sizes.items r.locks.items r.caller r.spare r.last r.begun r.bios p c.pass.view_is i m c.requires.of x cell c.index_mut.ensures.value c.size_cell-cell.ensures in
    let stand : StandAtSize m p i cell vx = sizes-at (λ s. size_seat (seat_view s) (seat_claims s)) (map seat_view r.stripes.items) r.sizes.items r.locks.items r.caller r.spare r.last r.begun r.bios p c.pass.view_is i m c.requires.of x cell c.index_mut.ensures.value c.size_cell-cell.ensures in
    let stood : StandAtSize m p (size_at m c.args.file) cell vx = subst (λ k. StandAtSize m p k cell vx) c.size-at.ensures.is stand in
    let own : IsSizeSeat r.caller r.spare (seat_claims x) = all-at (λ s. IsSizeSeat r.caller r.spare (seat_claims s)) r.sizes.items i x c.pass.invariant.1 there in
    let claims : seat_claims x ≡ size_claims p.caller p.spare (seat_claims x).rooms = own ∙ ap (λ (v : PassView). size_claims v.caller v.spare (seat_claims x).rooms) c.pass.view_is in
    sizes-in (λ s. size_seat (seat_view s) (seat_claims s)) (map seat_view r.stripes.items) r.sizes.items r.locks.items r.caller r.spare r.last r.begun r.bios p c.pass.view_is i m c.requires.of x cell c.index_mut.ensures.value c.size_cell-cell.ensures

pub turn-requires-clause-ready : goal.turn-requires-clause-ready
turn-requires-clause-ready g c =
    let r = c.pass.inside in
    let m : MountView = c.args.self.now in
    let p : PassView = c.args.pass.now in
    let i = c.size-at.result in
    let x = c.index_mut.result.now in
    let vx : SizeSeat = size_seat (seat_view x) (seat_claims x) in
    let cell = cell_view c.size_cell-cell.result.now in
    let there = size-there (λ s. size_seat (seat_view s) (seat_claims s)) (map seat_view r.stripes.items) r.sizes.items r.locks.items r.caller r.spare r.last r.begun r.bios p c.pass.view_is i m c.requires.of x cell c.index_mut.ensures.value c.size_cell-cell.ensures in
    let stand : StandAtSize m p i cell vx = sizes-at (λ s. size_seat (seat_view s) (seat_claims s)) (map seat_view r.stripes.items) r.sizes.items r.locks.items r.caller r.spare r.last r.begun r.bios p c.pass.view_is i m c.requires.of x cell c.index_mut.ensures.value c.size_cell-cell.ensures in
    let stood : StandAtSize m p (size_at m c.args.file) cell vx = subst (λ k. StandAtSize m p k cell vx) c.size-at.ensures.is stand in
    let own : IsSizeSeat r.caller r.spare (seat_claims x) = all-at (λ s. IsSizeSeat r.caller r.spare (seat_claims s)) r.sizes.items i x c.pass.invariant.1 there in
    let claims : seat_claims x ≡ size_claims p.caller p.spare (seat_claims x).rooms = own ∙ ap (λ (v : PassView). size_claims v.caller v.spare (seat_claims x).rooms) c.pass.view_is in
    subst (λ (k : ClaimsView). g.C.Change.ready c.args.change.now cell.opening (seat_view x).seen k) (sym claims) (c.requires.ready cell vx stood)

pub invariant_of-pass : goal.invariant_of-pass
invariant_of-pass g c =
    let r = c.pass.inside in
    let m : MountView = c.args.self.now in
    let p : PassView = c.args.pass.now in
    let i = c.size-at.result in
    let x = c.index_mut.result.now in
    let vx : SizeSeat = size_seat (seat_view x) (seat_claims x) in
    let cell = cell_view c.size_cell-cell.result.now in
    let there = size-there (λ s. size_seat (seat_view s) (seat_claims s)) (map seat_view r.stripes.items) r.sizes.items r.locks.items r.caller r.spare r.last r.begun r.bios p c.pass.view_is i m c.requires.of x cell c.index_mut.ensures.value c.size_cell-cell.ensures in
    let stand : StandAtSize m p i cell vx = sizes-at (λ s. size_seat (seat_view s) (seat_claims s)) (map seat_view r.stripes.items) r.sizes.items r.locks.items r.caller r.spare r.last r.begun r.bios p c.pass.view_is i m c.requires.of x cell c.index_mut.ensures.value c.size_cell-cell.ensures in
    let stood : StandAtSize m p (size_at m c.args.file) cell vx = subst (λ k. StandAtSize m p k cell vx) c.size-at.ensures.is stand in
    let own : IsSizeSeat r.caller r.spare (seat_claims x) = all-at (λ s. IsSizeSeat r.caller r.spare (seat_claims s)) r.sizes.items i x c.pass.invariant.1 there in
    let claims : seat_claims x ≡ size_claims p.caller p.spare (seat_claims x).rooms = own ∙ ap (λ (v : PassView). size_claims v.caller v.spare (seat_claims x).rooms) c.pass.view_is in
    let y = c.turn.new.seat in
    let vy : SizeSeat = size_seat (seat_view y) (seat_claims y) in
    let t = c.turn.ensures.turned in
    let same : without_rooms (seat_claims y) ≡ without_rooms (seat_claims x) = c.requires.leaves cell.opening _ t.value t.next (seat_claims x) (seat_claims y) c.turn.new.change c.turn.result t.entry t.done in
    let left : IsSizeSeat r.caller r.spare (seat_claims y) = size-left r.caller r.spare (seat_claims x) (seat_claims y) own same in
    let after : seat_claims y ≡ size_claims p.caller p.spare (seat_claims y).rooms = left ∙ ap (λ (v : PassView). size_claims v.caller v.spare (seat_claims y).rooms) c.pass.view_is in
    let pass_is = size-set (λ s. size_seat (seat_view s) (seat_claims s)) (map seat_view r.stripes.items) r.sizes.items r.locks.items r.caller r.spare r.last r.begun r.bios p c.pass.view_is i y in
    (c.pass.invariant.0, All-set (λ s. IsSizeSeat r.caller r.spare (seat_claims s)) r.sizes.items i y left c.pass.invariant.1)

pub returns-clause-of : goal.returns-clause-of
returns-clause-of g c =
    let r = c.pass.inside in
    let m : MountView = c.args.self.now in
    let p : PassView = c.args.pass.now in
    let i = c.size-at.result in
    let x = c.index_mut.result.now in
    let vx : SizeSeat = size_seat (seat_view x) (seat_claims x) in
    let cell = cell_view c.size_cell-cell.result.now in
    let there = size-there (λ s. size_seat (seat_view s) (seat_claims s)) (map seat_view r.stripes.items) r.sizes.items r.locks.items r.caller r.spare r.last r.begun r.bios p c.pass.view_is i m c.requires.of x cell c.index_mut.ensures.value c.size_cell-cell.ensures in
    let stand : StandAtSize m p i cell vx = sizes-at (λ s. size_seat (seat_view s) (seat_claims s)) (map seat_view r.stripes.items) r.sizes.items r.locks.items r.caller r.spare r.last r.begun r.bios p c.pass.view_is i m c.requires.of x cell c.index_mut.ensures.value c.size_cell-cell.ensures in
    let stood : StandAtSize m p (size_at m c.args.file) cell vx = subst (λ k. StandAtSize m p k cell vx) c.size-at.ensures.is stand in
    let own : IsSizeSeat r.caller r.spare (seat_claims x) = all-at (λ s. IsSizeSeat r.caller r.spare (seat_claims s)) r.sizes.items i x c.pass.invariant.1 there in
    let claims : seat_claims x ≡ size_claims p.caller p.spare (seat_claims x).rooms = own ∙ ap (λ (v : PassView). size_claims v.caller v.spare (seat_claims x).rooms) c.pass.view_is in
    let y = c.turn.new.seat in
    let vy : SizeSeat = size_seat (seat_view y) (seat_claims y) in
    let t = c.turn.ensures.turned in
    let same : without_rooms (seat_claims y) ≡ without_rooms (seat_claims x) = c.requires.leaves cell.opening _ t.value t.next (seat_claims x) (seat_claims y) c.turn.new.change c.turn.result t.entry t.done in
    let left : IsSizeSeat r.caller r.spare (seat_claims y) = size-left r.caller r.spare (seat_claims x) (seat_claims y) own same in
    let after : seat_claims y ≡ size_claims p.caller p.spare (seat_claims y).rooms = left ∙ ap (λ (v : PassView). size_claims v.caller v.spare (seat_claims y).rooms) c.pass.view_is in
    let pass_is = size-set (λ s. size_seat (seat_view s) (seat_claims s)) (map seat_view r.stripes.items) r.sizes.items r.locks.items r.caller r.spare r.last r.begun r.bios p c.pass.view_is i y in
    subst (IsPassOf m) (sym pass_is) (of-with_size m p i vx vy c.requires.of stand.seat_is c.turn.ensures.same.0)

pub returns-clause-turned : goal.returns-clause-turned
returns-clause-turned g c =
    let r = c.pass.inside in
    let m : MountView = c.args.self.now in
    let p : PassView = c.args.pass.now in
    let i = c.size-at.result in
    let x = c.index_mut.result.now in
    let vx : SizeSeat = size_seat (seat_view x) (seat_claims x) in
    let cell = cell_view c.size_cell-cell.result.now in
    let there = size-there (λ s. size_seat (seat_view s) (seat_claims s)) (map seat_view r.stripes.items) r.sizes.items r.locks.items r.caller r.spare r.last r.begun r.bios p c.pass.view_is i m c.requires.of x cell c.index_mut.ensures.value c.size_cell-cell.ensures in
    let stand : StandAtSize m p i cell vx = sizes-at (λ s. size_seat (seat_view s) (seat_claims s)) (map seat_view r.stripes.items) r.sizes.items r.locks.items r.caller r.spare r.last r.begun r.bios p c.pass.view_is i m c.requires.of x cell c.index_mut.ensures.value c.size_cell-cell.ensures in
    let stood : StandAtSize m p (size_at m c.args.file) cell vx = subst (λ k. StandAtSize m p k cell vx) c.size-at.ensures.is stand in
    let own : IsSizeSeat r.caller r.spare (seat_claims x) = all-at (λ s. IsSizeSeat r.caller r.spare (seat_claims s)) r.sizes.items i x c.pass.invariant.1 there in
    let claims : seat_claims x ≡ size_claims p.caller p.spare (seat_claims x).rooms = own ∙ ap (λ (v : PassView). size_claims v.caller v.spare (seat_claims x).rooms) c.pass.view_is in
    let y = c.turn.new.seat in
    let vy : SizeSeat = size_seat (seat_view y) (seat_claims y) in
    let t = c.turn.ensures.turned in
    let same : without_rooms (seat_claims y) ≡ without_rooms (seat_claims x) = c.requires.leaves cell.opening _ t.value t.next (seat_claims x) (seat_claims y) c.turn.new.change c.turn.result t.entry t.done in
    let left : IsSizeSeat r.caller r.spare (seat_claims y) = size-left r.caller r.spare (seat_claims x) (seat_claims y) own same in
    let after : seat_claims y ≡ size_claims p.caller p.spare (seat_claims y).rooms = left ∙ ap (λ (v : PassView). size_claims v.caller v.spare (seat_claims y).rooms) c.pass.view_is in
    let pass_is = size-set (λ s. size_seat (seat_view s) (seat_claims s)) (map seat_view r.stripes.items) r.sizes.items r.locks.items r.caller r.spare r.last r.begun r.bios p c.pass.view_is i y in
    record {
      cell = cell;
      before = vx;
      after = vy;
      stand = stood;
      pass_is = pass_is ∙ ap (λ k. with_size p k vy) c.size-at.ensures.is;
      same_cell = c.turn.ensures.same.0;
      same_share = c.turn.ensures.same.1;
      refused = c.turn.ensures.refused;
      turned = size-turned (λ k l history value next entry. g.C.Change.does c.args.change.now cell.opening history value k c.turn.new.change next l c.turn.result entry) cell.opening (seat_claims x) (seat_claims y) _ _ (seat_view x) (seat_view y) claims after t;
    }

pub returns-clause-tickets : goal.returns-clause-tickets
returns-clause-tickets g c =
    let r = c.pass.inside in
    let m : MountView = c.args.self.now in
    let p : PassView = c.args.pass.now in
    let i = c.size-at.result in
    let x = c.index_mut.result.now in
    let vx : SizeSeat = size_seat (seat_view x) (seat_claims x) in
    let cell = cell_view c.size_cell-cell.result.now in
    let there = size-there (λ s. size_seat (seat_view s) (seat_claims s)) (map seat_view r.stripes.items) r.sizes.items r.locks.items r.caller r.spare r.last r.begun r.bios p c.pass.view_is i m c.requires.of x cell c.index_mut.ensures.value c.size_cell-cell.ensures in
    let stand : StandAtSize m p i cell vx = sizes-at (λ s. size_seat (seat_view s) (seat_claims s)) (map seat_view r.stripes.items) r.sizes.items r.locks.items r.caller r.spare r.last r.begun r.bios p c.pass.view_is i m c.requires.of x cell c.index_mut.ensures.value c.size_cell-cell.ensures in
    let stood : StandAtSize m p (size_at m c.args.file) cell vx = subst (λ k. StandAtSize m p k cell vx) c.size-at.ensures.is stand in
    let own : IsSizeSeat r.caller r.spare (seat_claims x) = all-at (λ s. IsSizeSeat r.caller r.spare (seat_claims s)) r.sizes.items i x c.pass.invariant.1 there in
    let claims : seat_claims x ≡ size_claims p.caller p.spare (seat_claims x).rooms = own ∙ ap (λ (v : PassView). size_claims v.caller v.spare (seat_claims x).rooms) c.pass.view_is in
    let y = c.turn.new.seat in
    let vy : SizeSeat = size_seat (seat_view y) (seat_claims y) in
    let t = c.turn.ensures.turned in
    let same : without_rooms (seat_claims y) ≡ without_rooms (seat_claims x) = c.requires.leaves cell.opening _ t.value t.next (seat_claims x) (seat_claims y) c.turn.new.change c.turn.result t.entry t.done in
    let left : IsSizeSeat r.caller r.spare (seat_claims y) = size-left r.caller r.spare (seat_claims x) (seat_claims y) own same in
    let after : seat_claims y ≡ size_claims p.caller p.spare (seat_claims y).rooms = left ∙ ap (λ (v : PassView). size_claims v.caller v.spare (seat_claims y).rooms) c.pass.view_is in
    let pass_is = size-set (λ s. size_seat (seat_view s) (seat_claims s)) (map seat_view r.stripes.items) r.sizes.items r.locks.items r.caller r.spare r.last r.begun r.bios p c.pass.view_is i y in
    subst (KeepsTickets p) (sym pass_is) (tickets-with_size p i vy)
