use Rattle.std.proofs.Common.{None, ◌≡◌, ◌-◌, ◌<◌, map, ap, ◌∙◌, sym, subst, refl}
use Rattle.std.specs.Prelude.{All}
use Rattle.turn_cell.specs.Seats.{seat_claims, seat_view}
use Rattle.mount_parts.specs.MountView.{MountView}
use Rattle.mini_fs.specs.BioSeats.{given_bios}
use Rattle.mini_fs.specs.PassView.{IsPassOf, PassView, pass_view, size_seat}
use Rattle.mini_fs.specs.Splits.{IsHome, SplitOff, given_share, given_size, given_stripe, kept_pass}
use Rattle.mini_fs.specs.Tickets.{KeepsTickets}
use Rattle.mini_fs.proofs.SplitPasses.{of-kept, of-new, tickets-kept}
use Rattle.mini_fs.proofs.Splitting.{size-cells, sizes-can, sizes-given, sizes-kept, sizes-left, sizes-new, stripe-cells, stripes-can, stripes-given, stripes-kept, stripes-left, stripes-new}
use Rattle.mini_fs.proofs.mount.Mount.split_pass.Goals as goal

pub split_stripes-stripes-requires-clause-cells : goal.split_stripes-stripes-requires-clause-cells
split_stripes-stripes-requires-clause-cells c =
    let r = c.pass.inside in
    let m : MountView = c.args.self.now in
    let p : PassView = c.args.pass.now in
    stripe-cells seat_view seat_claims r.stripes.items ∙ ap (λ (v : PassView). map (λ s. s.cell) v.stripes) c.pass.view_is ∙ c.requires.of.stripes

pub split_stripes-stripes-requires-clause-can : goal.split_stripes-stripes-requires-clause-can
split_stripes-stripes-requires-clause-can c =
    let r = c.pass.inside in
    let m : MountView = c.args.self.now in
    let p : PassView = c.args.pass.now in
    stripes-can seat_view seat_claims r.stripes.items r.caller r.spare (subst (λ (v : PassView). All (λ s. given_share < s.share) v.stripes) (sym c.pass.view_is) c.requires.can.stripes) c.pass.invariant.0 (subst (λ (v : PassView). 0 < v.spare) (sym c.pass.view_is) c.requires.can.spare)

pub split_sizes-sizes-requires-clause-cells : goal.split_sizes-sizes-requires-clause-cells
split_sizes-sizes-requires-clause-cells c =
    let r = c.pass.inside in
    let m : MountView = c.args.self.now in
    let p : PassView = c.args.pass.now in
    size-cells seat_view seat_claims r.sizes.items ∙ ap (λ (v : PassView). map (λ s. s.seat.cell) v.sizes) c.pass.view_is ∙ c.requires.of.sizes

pub split_sizes-sizes-requires-clause-can : goal.split_sizes-sizes-requires-clause-can
split_sizes-sizes-requires-clause-can c =
    let r = c.pass.inside in
    let m : MountView = c.args.self.now in
    let p : PassView = c.args.pass.now in
    sizes-can seat_view seat_claims r.sizes.items r.caller r.spare (subst (λ (v : PassView). All (λ s. given_share < s.seat.share) v.sizes) (sym c.pass.view_is) c.requires.can.sizes) c.pass.invariant.1 (subst (λ (v : PassView). 0 < v.spare) (sym c.pass.view_is) c.requires.can.spare)

pub split_locks-locks-requires-clause-home : goal.split_locks-locks-requires-clause-home
split_locks-locks-requires-clause-home c =
    let r = c.pass.inside in
    let m : MountView = c.args.self.now in
    let p : PassView = c.args.pass.now in
    subst (λ (v : PassView). All IsHome v.locks) (sym c.pass.view_is) c.requires.can.home

pub invariant_of-result : goal.invariant_of-result
invariant_of-result c =
    let r = c.pass.inside in
    let m : MountView = c.args.self.now in
    let p : PassView = c.args.pass.now in
    let stripes = c.split_stripes-stripes in
    let sizes = c.split_sizes-sizes in
    let locks = c.split_locks-locks in
    let bios = c.split-bios in
    let spare : r.spare ≡ p.spare = ap (λ (v : PassView). v.spare) c.pass.view_is in
    let next = c.lowest-caller.ensures in
    let caller : c.lowest-caller.result ≡ 4294967296 - p.spare = next ∙ ap (λ n. 4294967296 - n) spare in
    (stripes-new seat_view seat_claims r.stripes.items stripes.result.items r.caller r.spare _ next stripes.ensures.made c.pass.invariant.0, sizes-new seat_view seat_claims r.sizes.items sizes.result.items r.caller r.spare _ next sizes.ensures.made c.pass.invariant.1)

pub invariant_of-pass : goal.invariant_of-pass
invariant_of-pass c =
    let r = c.pass.inside in
    let m : MountView = c.args.self.now in
    let p : PassView = c.args.pass.now in
    let stripes = c.split_stripes-stripes in
    let sizes = c.split_sizes-sizes in
    let locks = c.split_locks-locks in
    let bios = c.split-bios in
    (stripes-left seat_view seat_claims r.stripes.items stripes.new.seats.items r.caller r.spare stripes.ensures.kept c.pass.invariant.0, sizes-left seat_view seat_claims r.sizes.items sizes.new.seats.items r.caller r.spare sizes.ensures.kept c.pass.invariant.1)

pub returns-clause-of : goal.returns-clause-of
returns-clause-of c =
    let r = c.pass.inside in
    let m : MountView = c.args.self.now in
    let p : PassView = c.args.pass.now in
    let stripes = c.split_stripes-stripes in
    let sizes = c.split_sizes-sizes in
    let locks = c.split_locks-locks in
    let bios = c.split-bios in
    let pass_is : pass_view (map seat_view stripes.new.seats.items) (map (λ s. size_seat (seat_view s) (seat_claims s)) sizes.new.seats.items) locks.new.seats.items r.caller (r.spare - 1) r.last r.begun bios.new.self ≡ kept_pass p =
    (λ j. pass_view (stripes-kept seat_view seat_claims r.stripes.items stripes.new.seats.items stripes.ensures.kept j) (sizes-kept seat_view seat_claims r.sizes.items sizes.new.seats.items sizes.ensures.kept j) (locks.ensures.kept j) r.caller (r.spare - 1) r.last r.begun (bios.ensures.kept j)) ∙ ap kept_pass c.pass.view_is in
    subst (IsPassOf m) (sym pass_is) (of-kept m p c.requires.of)

pub returns-clause-ok : goal.returns-clause-ok
returns-clause-ok c =
    let r = c.pass.inside in
    let m : MountView = c.args.self.now in
    let p : PassView = c.args.pass.now in
    let stripes = c.split_stripes-stripes in
    let sizes = c.split_sizes-sizes in
    let locks = c.split_locks-locks in
    let bios = c.split-bios in
    let pass_is : pass_view (map seat_view stripes.new.seats.items) (map (λ s. size_seat (seat_view s) (seat_claims s)) sizes.new.seats.items) locks.new.seats.items r.caller (r.spare - 1) r.last r.begun bios.new.self ≡ kept_pass p =
    (λ j. pass_view (stripes-kept seat_view seat_claims r.stripes.items stripes.new.seats.items stripes.ensures.kept j) (sizes-kept seat_view seat_claims r.sizes.items sizes.new.seats.items sizes.ensures.kept j) (locks.ensures.kept j) r.caller (r.spare - 1) r.last r.begun (bios.ensures.kept j)) ∙ ap kept_pass c.pass.view_is in
    let spare : r.spare ≡ p.spare = ap (λ (v : PassView). v.spare) c.pass.view_is in
    let next = c.lowest-caller.ensures in
    let caller : c.lowest-caller.result ≡ 4294967296 - p.spare = next ∙ ap (λ n. 4294967296 - n) spare in
    record {
      left = pass_is;
      stripes = stripes-given seat_view seat_claims r.stripes.items stripes.result.items stripes.ensures.made ∙ ap (λ (v : PassView). map given_stripe v.stripes) c.pass.view_is;
      sizes = sizes-given seat_view seat_claims r.sizes.items sizes.result.items sizes.ensures.made ∙ ap (λ (v : PassView). map given_size v.sizes) c.pass.view_is;
      locks = locks.ensures.made;
      caller = caller;
      spare = refl;
      last = ap (λ (v : PassView). v.last) c.pass.view_is;
      begun = refl;
      bios = bios.ensures.given ∙ ap (λ (v : PassView). given_bios v.bios) c.pass.view_is;
    }

pub returns-clause-made : goal.returns-clause-made
returns-clause-made c =
    let r = c.pass.inside in
    let m : MountView = c.args.self.now in
    let p : PassView = c.args.pass.now in
    let stripes = c.split_stripes-stripes in
    let sizes = c.split_sizes-sizes in
    let locks = c.split_locks-locks in
    let bios = c.split-bios in
    let pass_is : pass_view (map seat_view stripes.new.seats.items) (map (λ s. size_seat (seat_view s) (seat_claims s)) sizes.new.seats.items) locks.new.seats.items r.caller (r.spare - 1) r.last r.begun bios.new.self ≡ kept_pass p =
    (λ j. pass_view (stripes-kept seat_view seat_claims r.stripes.items stripes.new.seats.items stripes.ensures.kept j) (sizes-kept seat_view seat_claims r.sizes.items sizes.new.seats.items sizes.ensures.kept j) (locks.ensures.kept j) r.caller (r.spare - 1) r.last r.begun (bios.ensures.kept j)) ∙ ap kept_pass c.pass.view_is in
    let spare : r.spare ≡ p.spare = ap (λ (v : PassView). v.spare) c.pass.view_is in
    let next = c.lowest-caller.ensures in
    let caller : c.lowest-caller.result ≡ 4294967296 - p.spare = next ∙ ap (λ n. 4294967296 - n) spare in
    let made : SplitOff m p (kept_pass p) (pass_view (map seat_view stripes.result.items) (map (λ s. size_seat (seat_view s) (seat_claims s)) sizes.result.items) locks.result.items c.lowest-caller.result 0 r.last None bios.result) = record {
      left = refl;
      stripes = stripes-given seat_view seat_claims r.stripes.items stripes.result.items stripes.ensures.made ∙ ap (λ (v : PassView). map given_stripe v.stripes) c.pass.view_is;
      sizes = sizes-given seat_view seat_claims r.sizes.items sizes.result.items sizes.ensures.made ∙ ap (λ (v : PassView). map given_size v.sizes) c.pass.view_is;
      locks = locks.ensures.made;
      caller = caller;
      spare = refl;
      last = ap (λ (v : PassView). v.last) c.pass.view_is;
      begun = refl;
      bios = bios.ensures.given ∙ ap (λ (v : PassView). given_bios v.bios) c.pass.view_is;
    } in
    of-new m p (kept_pass p) _ c.requires.of made

pub returns-clause-tickets : goal.returns-clause-tickets
returns-clause-tickets c =
    let r = c.pass.inside in
    let m : MountView = c.args.self.now in
    let p : PassView = c.args.pass.now in
    let stripes = c.split_stripes-stripes in
    let sizes = c.split_sizes-sizes in
    let locks = c.split_locks-locks in
    let bios = c.split-bios in
    let pass_is : pass_view (map seat_view stripes.new.seats.items) (map (λ s. size_seat (seat_view s) (seat_claims s)) sizes.new.seats.items) locks.new.seats.items r.caller (r.spare - 1) r.last r.begun bios.new.self ≡ kept_pass p =
    (λ j. pass_view (stripes-kept seat_view seat_claims r.stripes.items stripes.new.seats.items stripes.ensures.kept j) (sizes-kept seat_view seat_claims r.sizes.items sizes.new.seats.items sizes.ensures.kept j) (locks.ensures.kept j) r.caller (r.spare - 1) r.last r.begun (bios.ensures.kept j)) ∙ ap kept_pass c.pass.view_is in
    subst (KeepsTickets p) (sym pass_is) (tickets-kept p)
