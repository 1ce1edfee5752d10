use Rattle.std.proofs.Common.{rules, ◌∷◌, Option, Some, None, refl, sym, ap, ◌∙◌, subst}
use Rattle.std.specs.Option.{IsSome}
use lib.ListN.{get_elem?}
use Rattle.atomic_table.specs.Table.{rest}
use Rattle.fault_device.specs.declared.lane.Done.{Done}
use Rattle.bio_pages.specs.declared.bio.Bio.{Bio}
use Rattle.bio_pages.specs.Running.{IsRun}
use Rattle.bio_pages.specs.Shelf.{SeatView, known_view, without_note}
use Rattle.bio_pages.specs.ShelfRule.{errand_to}
use Rattle.bio_pages.specs.ShelfSteps.{emptied, IsAtRest}
use Rattle.bio_pages.proofs.ShelfSums.{some-same}
use Rattle.bio_pages.proofs.ShelfCalls.{first-is, found-is, picks-at, clears-at, emptied-view}
use Rattle.bio_pages.proofs.shelf.BioShelf.gather.Goals as goal

pub pick-requires-clause-step : goal.pick-requires-clause-step
pick-requires-clause-step g c =
    let V = SeatView g.row.T.Denot in
    let is = c.seat.view_is in
    picks-at _ _ c.args.slot c.requires.noted.0 c.seat.inside.place.me c.seat.invariant.0 (ap (λ (v : V). v.seat) is ∙ c.requires.owner) c.seat.invariant.2
    (ap (λ (v : V). v.last) is ∙ c.requires.last) (ap (λ (v : V). get_elem? v.notes c.args.slot) is ∙ c.requires.noted.1)

pub exchange-back-requires : goal.exchange-back-requires
exchange-back-requires g c =
    let p = c.pick.ensures.step c.requires.noted.0 (ap (λ (v : SeatView g.row.T.Denot). get_elem? v.notes c.args.slot) c.seat.view_is ∙ c.requires.noted.1) in
    let x : Option (Bio g.row.T.Denot × Done) = Some (p.bio, p.done) in
    (search rules, (x, first-is (λ i. (p.me_is i).1)))

pub load-requires : goal.load-requires
load-requires g c =
    let e = errand_to c.args.slot c.requires.noted.0 in
    let p = c.pick.ensures.step c.requires.noted.0 (ap (λ (v : SeatView g.row.T.Denot). get_elem? v.notes c.args.slot) c.seat.view_is ∙ c.requires.noted.1) in
    let is = c.exchange-back.ensures.3 ∙ (λ i. ((p.me_is i).0, (e.slot, None) ∷ rest (p.me_is i).1)) in
    (search rules, search rules, clears-at _ _ e c.seat.inside.place.me.0 c.exchange-back.new.seat.me is)

pub unwrap-requires : goal.unwrap-requires
unwrap-requires g c =
    let p = c.pick.ensures.step c.requires.noted.0 (ap (λ (v : SeatView g.row.T.Denot). get_elem? v.notes c.args.slot) c.seat.view_is ∙ c.requires.noted.1) in
    subst IsSome (sym (found-is (λ i. (p.me_is i).1) c.exchange-back.ensures.2)) refl

pub invariant_of-seat : goal.invariant_of-seat
invariant_of-seat g c =
    let e = errand_to c.args.slot c.requires.noted.0 in
    let p = c.pick.ensures.step c.requires.noted.0 (ap (λ (v : SeatView g.row.T.Denot). get_elem? v.notes c.args.slot) c.seat.view_is ∙ c.requires.noted.1) in
    let is = c.exchange-back.ensures.3 ∙ (λ i. ((p.me_is i).0, (e.slot, None) ∷ rest (p.me_is i).1)) in
    let end = c.load.ensures.2 e (λ i. (is i).0.doing) ∙ (λ i. (emptied e.slot (is i).0, rest (is i).1)) in (
      (λ i. (end i).1),
      c.seat.invariant.1 ∙ (λ i. (sym end i).0.amount),
      subst IsAtRest (λ i. (sym end i).0.doing) tt,
    )

pub returns-clause-seat : goal.returns-clause-seat
returns-clause-seat g c =
    let e = errand_to c.args.slot c.requires.noted.0 in
    let p = c.pick.ensures.step c.requires.noted.0 (ap (λ (v : SeatView g.row.T.Denot). get_elem? v.notes c.args.slot) c.seat.view_is ∙ c.requires.noted.1) in
    let is = c.exchange-back.ensures.3 ∙ (λ i. ((p.me_is i).0, (e.slot, None) ∷ rest (p.me_is i).1)) in
    let end = c.load.ensures.2 e (λ i. (is i).0.doing) ∙ (λ i. (emptied e.slot (is i).0, rest (is i).1)) in
    let shelf = c.load.ensures.0 ∙ c.exchange-back.ensures.0 ∙ c.pick.ensures.shelf.0 in
    let seat = c.load.ensures.1 ∙ c.exchange-back.ensures.1 ∙ c.pick.ensures.shelf.1 in
    let place = c.seat.inside.place in
    (λ i. known_view (shelf i) (seat i) (end i).0) ∙ emptied-view place.table_id place.id c.args.slot e place.me.0 p.idle ∙ ap (λ (v : SeatView g.row.T.Denot). without_note v c.args.slot) c.seat.view_is

pub returns-clause-bio : goal.returns-clause-bio
returns-clause-bio g c before noted =
    let p = c.pick.ensures.step before (ap (λ (v : SeatView g.row.T.Denot). get_elem? v.notes c.args.slot) c.seat.view_is ∙ noted) in
    let found = found-is (λ i. (p.me_is i).1) c.exchange-back.ensures.2 in
    let same = some-same (sym c.unwrap.ensures ∙ found) in
    subst (λ (r : Bio g.row.T.Denot × Done). IsRun before r.0 r.1) (sym same) p.run
