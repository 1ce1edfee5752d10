use Rattle.std.proofs.Common.{◌≡◌, ◌+◌, ◌*◌, ◌++◌, List, drop, arith, refl, sym, ap, ◌∙◌, subst, length-drop}
use Rattle.std.proofs.lemmas.List.{drop-map}
use Rattle.iob_base.specs.Parting.{bare_parts}
use Rattle.iob_base.specs.declared.sector.Page.{Page}
use Rattle.iov_iter.specs.IovView.{IovView, PagePlace}
use Rattle.iov_iter.specs.Kept.{IsIov}
use Rattle.iov_iter.specs.Moving.{AreWhole, CanTake, after_take, next_pages}
use Rattle.iov_iter.specs.Slots.{iov_view, place_of, places}
use Rattle.iov_iter.proofs.Making.{length_places}
use Rattle.iov_iter.proofs.PutLemmas.{TakesAt, kept_taken, takes_at, view_next, view_taken}
use Rattle.iov_iter.proofs.RunLemmas.{whole_bytes, whole_in, whole_there}
use Rattle.iov_iter.proofs.SlotLemmas.{length_joined, length_sizes}
use Rattle.iov_iter.proofs.iov.IovIter.take_pages.Goals as goal

pub take_run-requires-clause-within : goal.take_run-requires-clause-within
take_run-requires-clause-within c =
    let V : IovView → Type 0 = λ v. CanTake v c.args.n in
    let t : TakesAt c.self.inside.page_size c.self.inside.slots.items c.self.inside.place c.args.n c.spot_at-spot.result.page =
    takes_at c.self.inside.page_size c.self.inside.slots.items c.self.inside.lengths.items c.deref.result.now c.self.inside.place c.args.n c.spot_at-spot.result c.self.invariant.cut c.deref.ensures.value c.spot_at-spot.ensures.stands c.spot_at-spot.ensures.byte (subst V (sym c.self.view_is) c.requires.whole) in
    omega (arith, whole_there c.self.inside.page_size c.args.n (drop c.spot_at-spot.result.page (places c.self.inside.slots.items)) t.ready, length-drop c.spot_at-spot.result.page (places c.self.inside.slots.items), length_places c.self.inside.slots.items, length_sizes c.self.inside.slots.items, t.within)

pub take_run-requires-clause-home : goal.take_run-requires-clause-home
take_run-requires-clause-home c =
    let V : IovView → Type 0 = λ v. CanTake v c.args.n in
    let W : List PagePlace → Type 0 = AreWhole c.self.inside.page_size c.args.n in
    let t : TakesAt c.self.inside.page_size c.self.inside.slots.items c.self.inside.place c.args.n c.spot_at-spot.result.page =
    takes_at c.self.inside.page_size c.self.inside.slots.items c.self.inside.lengths.items c.deref.result.now c.self.inside.place c.args.n c.spot_at-spot.result c.self.invariant.cut c.deref.ensures.value c.spot_at-spot.ensures.stands c.spot_at-spot.ensures.byte (subst V (sym c.self.view_is) c.requires.whole) in
    whole_in c.self.inside.page_size c.args.n (drop c.spot_at-spot.result.page c.self.inside.slots.items) (subst W (drop-map place_of c.spot_at-spot.result.page c.self.inside.slots.items) t.ready)

pub overflow_add-self : goal.overflow_add-self
overflow_add-self c =
    let V : IovView → Type 0 = λ v. CanTake v c.args.n in
    let t : TakesAt c.self.inside.page_size c.self.inside.slots.items c.self.inside.place c.args.n c.spot_at-spot.result.page =
    takes_at c.self.inside.page_size c.self.inside.slots.items c.self.inside.lengths.items c.deref.result.now c.self.inside.place c.args.n c.spot_at-spot.result c.self.invariant.cut c.deref.ensures.value c.spot_at-spot.ensures.stands c.spot_at-spot.ensures.byte (subst V (sym c.self.view_is) c.requires.whole) in
    let k : c.from.result * c.from-2.result ≡ c.args.n * c.self.inside.page_size = rw (c.from.ensures, c.from-2.ensures) refl in
    omega (arith, k, whole_bytes c.self.inside.page_size c.args.n c.spot_at-spot.result.page (places c.self.inside.slots.items) t.ready, t.begins, length_joined c.self.inside.slots.items, c.self.invariant.joined, c.self.invariant.short)

taken : (c : goal.After-self-1) → TakesAt c.self.inside.page_size c.self.inside.slots.items c.self.inside.place c.args.n c.spot_at-spot.result.page
taken c =
    let V : IovView → Type 0 = λ v. CanTake v c.args.n in
    takes_at c.self.inside.page_size c.self.inside.slots.items c.self.inside.lengths.items c.deref.result.now c.self.inside.place c.args.n c.spot_at-spot.result c.self.invariant.cut c.deref.ensures.value c.spot_at-spot.ensures.stands c.spot_at-spot.ensures.byte (subst V (sym c.self.view_is) c.requires.whole)

view_is : (c : goal.After-self-1) → iov_view c.self.inside.page_size c.take_run.new.slots.items c.self.inside.lengths.items (c.self.inside.place + c.from.result * c.from-2.result) ≡ after_take (iov_view c.self.inside.page_size c.self.inside.slots.items c.self.inside.lengths.items c.self.inside.place) c.args.n
view_is c =
    let k : c.from.result * c.from-2.result ≡ c.args.n * c.self.inside.page_size = rw (c.from.ensures, c.from-2.ensures) refl in
    view_taken c.self.inside.page_size c.self.inside.slots.items c.take_run.new.slots.items c.self.inside.lengths.items c.self.inside.place c.args.n c.spot_at-spot.result.page (c.from.result * c.from-2.result) (taken c).is c.take_run.ensures.slots k

pub invariant_of-self : goal.invariant_of-self
invariant_of-self c =
    let V : IovView → Type 0 = λ v. CanTake v c.args.n in
    subst IsIov (sym (view_is c)) (kept_taken (iov_view c.self.inside.page_size c.self.inside.slots.items c.self.inside.lengths.items c.self.inside.place) c.args.n c.self.invariant (subst V (sym c.self.view_is) c.requires.whole))

pub returns-clause-pages : goal.returns-clause-pages
returns-clause-pages c =
    c.take_run.ensures.pages ∙ ap (λ (gs : List Page). c.args.into.now ++ bare_parts gs)
    (view_next c.self.inside.page_size c.self.inside.slots.items c.self.inside.lengths.items c.self.inside.place c.args.n c.spot_at-spot.result.page (taken c).is (taken c).begins ∙ ap (λ (v : IovView). next_pages v c.args.n) c.self.view_is)

pub returns-clause-state : goal.returns-clause-state
returns-clause-state c = view_is c ∙ ap (λ (v : IovView). after_take v c.args.n) c.self.view_is
