use Rattle.std.proofs.Common.{rules, ◌∷◌, Some, ap, ◌∙◌}
use Rattle.atomic_table.specs.Table.{rest}
use Rattle.fault_device.specs.declared.lane.Done.{Done}
use Rattle.bio_pages.specs.declared.bio.Bio.{Bio}
use Rattle.bio_pages.specs.Shelf.{SeatView}
use Rattle.bio_pages.specs.ShelfRule.{errand_to}
use Rattle.bio_pages.specs.ShelfSteps.{filling}
use Rattle.bio_pages.proofs.ShelfSums.{rests-waiting}
use Rattle.bio_pages.proofs.ShelfCalls.{takes-at, counts-at}
use Rattle.bio_pages.proofs.shelf.BioShelf.put.Goals as goal

pub load-requires : goal.load-requires
load-requires g c =
    let me = c.seat.inside.place.me in
    let e = errand_to c.args.slot c.requires.errand.0 in
    let waits = rests-waiting me.0.doing e c.seat.invariant.2 (ap (λ (v : SeatView g.row.T.Denot). v.errand) c.seat.view_is ∙ c.requires.errand.1) in
    (search rules, search rules, takes-at _ _ e me c.seat.invariant.0 waits)

pub fetch_sub-found-requires : goal.fetch_sub-found-requires
fetch_sub-found-requires g c =
    let me = c.seat.inside.place.me in
    let e = errand_to c.args.slot c.requires.errand.0 in
    let waits = rests-waiting me.0.doing e c.seat.invariant.2 (ap (λ (v : SeatView g.row.T.Denot). v.errand) c.seat.view_is ∙ c.requires.errand.1) in
    let taken = c.load.ensures.2 e waits in
    let p : Bio g.row.T.Denot × Done = (c.args.bio, c.args.done) in
    let is = c.exchange.ensures.3 ∙ (λ i. ((taken i).0, (e.slot, Some p) ∷ rest (taken i).1)) ∙ (λ i. (filling e me.0, (e.slot, Some p) ∷ c.seat.invariant.0 i)) in
    (search rules, search rules, counts-at _ _ e me.0 p c.exchange.new.seat.me is c.requires.errand.2)
