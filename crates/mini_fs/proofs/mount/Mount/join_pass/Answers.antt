use Rattle.std.proofs.Common.{◌≡◌, ◌⊎◌, ◌+◌, map, length, inl, inr, ap, ◌∙◌, sym, subst, refl}
use Rattle.std.specs.Prelude.{All}
use Rattle.std.proofs.lemmas.List.{length-map}
use Rattle.turn_cell.specs.Seats.{seat_claims, seat_view}
use Rattle.turn_cell.specs.Views.{joined}
use Rattle.mini_fs.specs.Joins.{JoinedHistories, joined_pass, joined_size, joined_size_place, joined_stripe_place}
use Rattle.mount_parts.specs.MountView.{MountView}
use Rattle.mini_fs.specs.PassView.{IsPassOf, PassView, pass_view, size_seat}
use Rattle.mini_fs.specs.Places.{size_place, stripe_place}
use Rattle.mini_fs.specs.Tickets.{KeepsTickets}
use Rattle.mini_fs.proofs.JoinPasses.{joined-histories, of-joined, paired-seen, sizes-both, sizes-merge, stripes-both, stripes-merge, tickets-joined}
use Rattle.mount_parts.proofs.Places.{same-length}
use Rattle.mini_fs.proofs.Splitting.{size-cells, stripe-cells}
use Rattle.mini_fs.proofs.mount.Mount.join_pass.Goals as goal

pub join_stripes-requires-clause-cells : goal.join_stripes-requires-clause-cells
join_stripes-requires-clause-cells c =
    let r = c.into.inside in
    let f = c.from.inside in
    let m : MountView = c.args.self.now in
    let p : PassView = c.args.into.now in
    let q : PassView = c.args.from in
    let spare : (r.spare ≡ 0) ⊎ (f.spare ≡ 0) = elim c.requires.can.spare [ inl e ↦ inl (ap (λ (v : PassView). v.spare) c.into.view_is ∙ e) | inr e ↦ inr (ap (λ (v : PassView). v.spare) c.from.view_is ∙ e) ] in
    stripe-cells seat_view seat_claims r.stripes.items ∙ ap (λ (v : PassView). map (λ s. s.cell) v.stripes) c.into.view_is ∙ c.requires.of.stripes

pub join_stripes-requires-clause-others : goal.join_stripes-requires-clause-others
join_stripes-requires-clause-others c =
    let r = c.into.inside in
    let f = c.from.inside in
    let m : MountView = c.args.self.now in
    let p : PassView = c.args.into.now in
    let q : PassView = c.args.from in
    let spare : (r.spare ≡ 0) ⊎ (f.spare ≡ 0) = elim c.requires.can.spare [ inl e ↦ inl (ap (λ (v : PassView). v.spare) c.into.view_is ∙ e) | inr e ↦ inr (ap (λ (v : PassView). v.spare) c.from.view_is ∙ e) ] in
    stripe-cells seat_view seat_claims f.stripes.items ∙ ap (λ (v : PassView). map (λ s. s.cell) v.stripes) c.from.view_is ∙ c.requires.other.stripes

pub join_stripes-requires-clause-merge : goal.join_stripes-requires-clause-merge
join_stripes-requires-clause-merge c =
    let r = c.into.inside in
    let f = c.from.inside in
    let m : MountView = c.args.self.now in
    let p : PassView = c.args.into.now in
    let q : PassView = c.args.from in
    let spare : (r.spare ≡ 0) ⊎ (f.spare ≡ 0) = elim c.requires.can.spare [ inl e ↦ inl (ap (λ (v : PassView). v.spare) c.into.view_is ∙ e) | inr e ↦ inr (ap (λ (v : PassView). v.spare) c.from.view_is ∙ e) ] in
    stripes-merge seat_view seat_claims r.stripes.items f.stripes.items r.caller f.caller r.spare f.spare c.into.invariant.0 c.from.invariant.0 spare

pub join_sizes-requires-clause-cells : goal.join_sizes-requires-clause-cells
join_sizes-requires-clause-cells c =
    let r = c.into.inside in
    let f = c.from.inside in
    let m : MountView = c.args.self.now in
    let p : PassView = c.args.into.now in
    let q : PassView = c.args.from in
    let spare : (r.spare ≡ 0) ⊎ (f.spare ≡ 0) = elim c.requires.can.spare [ inl e ↦ inl (ap (λ (v : PassView). v.spare) c.into.view_is ∙ e) | inr e ↦ inr (ap (λ (v : PassView). v.spare) c.from.view_is ∙ e) ] in
    size-cells seat_view seat_claims r.sizes.items ∙ ap (λ (v : PassView). map (λ s. s.seat.cell) v.sizes) c.into.view_is ∙ c.requires.of.sizes

pub join_sizes-requires-clause-others : goal.join_sizes-requires-clause-others
join_sizes-requires-clause-others c =
    let r = c.into.inside in
    let f = c.from.inside in
    let m : MountView = c.args.self.now in
    let p : PassView = c.args.into.now in
    let q : PassView = c.args.from in
    let spare : (r.spare ≡ 0) ⊎ (f.spare ≡ 0) = elim c.requires.can.spare [ inl e ↦ inl (ap (λ (v : PassView). v.spare) c.into.view_is ∙ e) | inr e ↦ inr (ap (λ (v : PassView). v.spare) c.from.view_is ∙ e) ] in
    size-cells seat_view seat_claims f.sizes.items ∙ ap (λ (v : PassView). map (λ s. s.seat.cell) v.sizes) c.from.view_is ∙ c.requires.other.sizes

pub join_sizes-requires-clause-merge : goal.join_sizes-requires-clause-merge
join_sizes-requires-clause-merge c =
    let r = c.into.inside in
    let f = c.from.inside in
    let m : MountView = c.args.self.now in
    let p : PassView = c.args.into.now in
    let q : PassView = c.args.from in
    let spare : (r.spare ≡ 0) ⊎ (f.spare ≡ 0) = elim c.requires.can.spare [ inl e ↦ inl (ap (λ (v : PassView). v.spare) c.into.view_is ∙ e) | inr e ↦ inr (ap (λ (v : PassView). v.spare) c.from.view_is ∙ e) ] in
    sizes-merge seat_view seat_claims r.sizes.items f.sizes.items r.caller f.caller r.spare f.spare c.into.invariant.1 c.from.invariant.1 spare (subst (λ (v : PassView). All (λ s. s.rooms ≡ 0) v.sizes) (sym c.from.view_is) c.requires.can.rooms)

pub invariant_of-into : goal.invariant_of-into
invariant_of-into c =
    let r = c.into.inside in
    let f = c.from.inside in
    let m : MountView = c.args.self.now in
    let p : PassView = c.args.into.now in
    let q : PassView = c.args.from in
    let spare : (r.spare ≡ 0) ⊎ (f.spare ≡ 0) = elim c.requires.can.spare [ inl e ↦ inl (ap (λ (v : PassView). v.spare) c.into.view_is ∙ e) | inr e ↦ inr (ap (λ (v : PassView). v.spare) c.from.view_is ∙ e) ] in
    let long : length r.stripes.items ≡ length f.stripes.items =
    sym (length-map r.stripes.items seat_view) ∙ ap (λ (v : PassView). length v.stripes) c.into.view_is ∙ same-length (λ s. s.cell) (λ k. k.cell) p.stripes m.stripes c.requires.of.stripes
    ∙ sym (same-length (λ s. s.cell) (λ k. k.cell) q.stripes m.stripes c.requires.other.stripes) ∙ ap (λ (v : PassView). length v.stripes) (sym c.from.view_is) ∙ length-map f.stripes.items seat_view in
    let wide : length r.sizes.items ≡ length f.sizes.items =
    sym (length-map r.sizes.items (λ s. size_seat (seat_view s) (seat_claims s))) ∙ ap (λ (v : PassView). length v.sizes) c.into.view_is ∙ same-length (λ s. s.seat.cell) (λ k. k.cell) p.sizes m.sizes c.requires.of.sizes
    ∙ sym (same-length (λ s. s.seat.cell) (λ k. k.cell) q.sizes m.sizes c.requires.other.sizes) ∙ ap (λ (v : PassView). length v.sizes) (sym c.from.view_is) ∙ length-map f.sizes.items (λ s. size_seat (seat_view s) (seat_claims s)) in (
      stripes-both seat_view seat_claims c.join_stripes.new.seats.items r.stripes.items f.stripes.items r.caller f.caller r.spare f.spare long c.join_stripes.ensures.joined c.into.invariant.0 c.from.invariant.0,
      sizes-both seat_view seat_claims c.join_sizes.new.seats.items r.sizes.items f.sizes.items r.caller f.caller r.spare f.spare wide c.join_sizes.ensures.joined c.into.invariant.1 c.from.invariant.1,
    )

pub returns-clause-of : goal.returns-clause-of
returns-clause-of c =
    let r = c.into.inside in
    let f = c.from.inside in
    let m : MountView = c.args.self.now in
    let p : PassView = c.args.into.now in
    let q : PassView = c.args.from in
    let spare : (r.spare ≡ 0) ⊎ (f.spare ≡ 0) = elim c.requires.can.spare [ inl e ↦ inl (ap (λ (v : PassView). v.spare) c.into.view_is ∙ e) | inr e ↦ inr (ap (λ (v : PassView). v.spare) c.from.view_is ∙ e) ] in
    let js = c.join_stripes in
    let jz = c.join_sizes in
    let is : pass_view (map seat_view js.new.seats.items) (map (λ s. size_seat (seat_view s) (seat_claims s)) jz.new.seats.items) r.locks.items r.caller (r.spare + f.spare) c.later-last.result r.begun c.join.new.self ≡ joined_pass p q =
    (λ j. pass_view (paired-seen (λ s. stripe_place (seat_view s) (seat_claims s)) joined_stripe_place (λ v. v.seat) joined (λ v w. refl) js.new.seats.items r.stripes.items f.stripes.items js.ensures.joined j)
    (paired-seen (λ s. size_place (seat_view s) (seat_claims s)) joined_size_place (λ v. size_seat v.seat v.claims) joined_size (λ v w. refl) jz.new.seats.items r.sizes.items f.sizes.items jz.ensures.joined j) r.locks.items r.caller (r.spare + f.spare) (c.later-last.ensures j) r.begun (c.join.ensures j))
    ∙ (λ j. joined_pass (c.into.view_is j) (c.from.view_is j)) in
    let both : JoinedHistories p q = joined-histories seat_view seat_claims seat_view seat_claims r.stripes.items f.stripes.items r.sizes.items f.sizes.items p q (ap (λ (v : PassView). v.stripes) c.into.view_is) (ap (λ (v : PassView). v.stripes) c.from.view_is) (ap (λ (v : PassView). v.sizes) c.into.view_is) (ap (λ (v : PassView). v.sizes) c.from.view_is) js.ensures.begins jz.ensures.begins in
    subst (IsPassOf m) (sym is) (of-joined m p q c.requires.of)

pub returns-clause-joined : goal.returns-clause-joined
returns-clause-joined c =
    let r = c.into.inside in
    let f = c.from.inside in
    let m : MountView = c.args.self.now in
    let p : PassView = c.args.into.now in
    let q : PassView = c.args.from in
    let spare : (r.spare ≡ 0) ⊎ (f.spare ≡ 0) = elim c.requires.can.spare [ inl e ↦ inl (ap (λ (v : PassView). v.spare) c.into.view_is ∙ e) | inr e ↦ inr (ap (λ (v : PassView). v.spare) c.from.view_is ∙ e) ] in
    let js = c.join_stripes in
    let jz = c.join_sizes in
    let is : pass_view (map seat_view js.new.seats.items) (map (λ s. size_seat (seat_view s) (seat_claims s)) jz.new.seats.items) r.locks.items r.caller (r.spare + f.spare) c.later-last.result r.begun c.join.new.self ≡ joined_pass p q =
    (λ j. pass_view (paired-seen (λ s. stripe_place (seat_view s) (seat_claims s)) joined_stripe_place (λ v. v.seat) joined (λ v w. refl) js.new.seats.items r.stripes.items f.stripes.items js.ensures.joined j)
    (paired-seen (λ s. size_place (seat_view s) (seat_claims s)) joined_size_place (λ v. size_seat v.seat v.claims) joined_size (λ v w. refl) jz.new.seats.items r.sizes.items f.sizes.items jz.ensures.joined j) r.locks.items r.caller (r.spare + f.spare) (c.later-last.ensures j) r.begun (c.join.ensures j))
    ∙ (λ j. joined_pass (c.into.view_is j) (c.from.view_is j)) in
    let both : JoinedHistories p q = joined-histories seat_view seat_claims seat_view seat_claims r.stripes.items f.stripes.items r.sizes.items f.sizes.items p q (ap (λ (v : PassView). v.stripes) c.into.view_is) (ap (λ (v : PassView). v.stripes) c.from.view_is) (ap (λ (v : PassView). v.sizes) c.into.view_is) (ap (λ (v : PassView). v.sizes) c.from.view_is) js.ensures.begins jz.ensures.begins in
    is

pub returns-clause-histories : goal.returns-clause-histories
returns-clause-histories c =
    let r = c.into.inside in
    let f = c.from.inside in
    let m : MountView = c.args.self.now in
    let p : PassView = c.args.into.now in
    let q : PassView = c.args.from in
    let spare : (r.spare ≡ 0) ⊎ (f.spare ≡ 0) = elim c.requires.can.spare [ inl e ↦ inl (ap (λ (v : PassView). v.spare) c.into.view_is ∙ e) | inr e ↦ inr (ap (λ (v : PassView). v.spare) c.from.view_is ∙ e) ] in
    let js = c.join_stripes in
    let jz = c.join_sizes in
    let is : pass_view (map seat_view js.new.seats.items) (map (λ s. size_seat (seat_view s) (seat_claims s)) jz.new.seats.items) r.locks.items r.caller (r.spare + f.spare) c.later-last.result r.begun c.join.new.self ≡ joined_pass p q =
    (λ j. pass_view (paired-seen (λ s. stripe_place (seat_view s) (seat_claims s)) joined_stripe_place (λ v. v.seat) joined (λ v w. refl) js.new.seats.items r.stripes.items f.stripes.items js.ensures.joined j)
    (paired-seen (λ s. size_place (seat_view s) (seat_claims s)) joined_size_place (λ v. size_seat v.seat v.claims) joined_size (λ v w. refl) jz.new.seats.items r.sizes.items f.sizes.items jz.ensures.joined j) r.locks.items r.caller (r.spare + f.spare) (c.later-last.ensures j) r.begun (c.join.ensures j))
    ∙ (λ j. joined_pass (c.into.view_is j) (c.from.view_is j)) in
    let both : JoinedHistories p q = joined-histories seat_view seat_claims seat_view seat_claims r.stripes.items f.stripes.items r.sizes.items f.sizes.items p q (ap (λ (v : PassView). v.stripes) c.into.view_is) (ap (λ (v : PassView). v.stripes) c.from.view_is) (ap (λ (v : PassView). v.sizes) c.into.view_is) (ap (λ (v : PassView). v.sizes) c.from.view_is) js.ensures.begins jz.ensures.begins in
    both

pub returns-clause-tickets : goal.returns-clause-tickets
returns-clause-tickets c =
    let r = c.into.inside in
    let f = c.from.inside in
    let m : MountView = c.args.self.now in
    let p : PassView = c.args.into.now in
    let q : PassView = c.args.from in
    let spare : (r.spare ≡ 0) ⊎ (f.spare ≡ 0) = elim c.requires.can.spare [ inl e ↦ inl (ap (λ (v : PassView). v.spare) c.into.view_is ∙ e) | inr e ↦ inr (ap (λ (v : PassView). v.spare) c.from.view_is ∙ e) ] in
    let js = c.join_stripes in
    let jz = c.join_sizes in
    let is : pass_view (map seat_view js.new.seats.items) (map (λ s. size_seat (seat_view s) (seat_claims s)) jz.new.seats.items) r.locks.items r.caller (r.spare + f.spare) c.later-last.result r.begun c.join.new.self ≡ joined_pass p q =
    (λ j. pass_view (paired-seen (λ s. stripe_place (seat_view s) (seat_claims s)) joined_stripe_place (λ v. v.seat) joined (λ v w. refl) js.new.seats.items r.stripes.items f.stripes.items js.ensures.joined j)
    (paired-seen (λ s. size_place (seat_view s) (seat_claims s)) joined_size_place (λ v. size_seat v.seat v.claims) joined_size (λ v w. refl) jz.new.seats.items r.sizes.items f.sizes.items jz.ensures.joined j) r.locks.items r.caller (r.spare + f.spare) (c.later-last.ensures j) r.begun (c.join.ensures j))
    ∙ (λ j. joined_pass (c.into.view_is j) (c.from.view_is j)) in
    let both : JoinedHistories p q = joined-histories seat_view seat_claims seat_view seat_claims r.stripes.items f.stripes.items r.sizes.items f.sizes.items p q (ap (λ (v : PassView). v.stripes) c.into.view_is) (ap (λ (v : PassView). v.stripes) c.from.view_is) (ap (λ (v : PassView). v.sizes) c.into.view_is) (ap (λ (v : PassView). v.sizes) c.from.view_is) js.ensures.begins jz.ensures.begins in
    subst (KeepsTickets p) (sym is) (tickets-joined m p q c.requires.of c.requires.other both)
