use Rattle.std.proofs.Common.{◌≡◌, ◌++◌, ℕ, List, take, drop, sym, ap, ◌∙◌, subst}
use Rattle.std.proofs.lemmas.List.{drop-map}
use Rattle.iob_base.specs.Parting.{pages_of}
use Rattle.iob_base.specs.declared.part.Part.{Part}
use Rattle.iob_base.specs.declared.sector.Page.{Page}
use Rattle.iov_iter.specs.IovView.{IovView, PagePlace}
use Rattle.iov_iter.specs.Kept.{IsIov, OutAreWhole}
use Rattle.iov_iter.specs.Moving.{ArePagesOf, CanPut, after_put}
use Rattle.iov_iter.specs.Runs.{FitIn, slots_put}
use Rattle.iov_iter.specs.Slots.{SlotView, iov_view, place_of, places}
use Rattle.iov_iter.proofs.PutLemmas.{kept_put, out_drop, pages_fit, view_put}
use Rattle.iov_iter.proofs.iov.IovIter.put_pages.Goals as goal
use Rattle.iov_iter.proofs.iov.IovIter.put_pages.Goals.{After-clear}

may : (size at place : ℕ) (slots : List SlotView) (lengths : List ℕ) (v : IovView) (pages : List Page) → iov_view size slots lengths place ≡ v → IsIov (iov_view size slots lengths place) → CanPut v at pages → FitIn (drop at slots) pages
may size at place slots lengths v pages e k w =
    let V : IovView → Type 0 = λ v. CanPut v at pages in
    let O : List PagePlace → Type 0 = OutAreWhole size in
    let A : List PagePlace → Type 0 = λ ps. ArePagesOf size ps pages in
    pages_fit size (drop at slots) pages
    (subst O (drop-map place_of at slots) (out_drop size at (places slots) k.out))
    (subst A (drop-map place_of at slots) (subst V (sym e) w))

pub put_run-requires : goal.put_run-requires
put_run-requires c =
    let F : List Part → Type 0 = λ ps. FitIn (drop c.args.at c.self.inside.slots.items) (pages_of ps) in
    subst F (sym c.as_mut_slice.ensures.value) (may c.self.inside.page_size c.args.at c.self.inside.place c.self.inside.slots.items c.self.inside.lengths.items _ (pages_of c.args.parts.now) c.self.view_is c.self.invariant c.requires.fit)

view_is : (c : After-clear) → iov_view c.self.inside.page_size c.put_run.new.slots.items c.self.inside.lengths.items c.self.inside.place ≡ after_put (iov_view c.self.inside.page_size c.self.inside.slots.items c.self.inside.lengths.items c.self.inside.place) c.args.at (pages_of c.args.parts.now)
view_is c =
    view_put c.self.inside.page_size c.self.inside.slots.items c.put_run.new.slots.items c.self.inside.lengths.items c.self.inside.place c.args.at (pages_of c.args.parts.now)
    (may c.self.inside.page_size c.args.at c.self.inside.place c.self.inside.slots.items c.self.inside.lengths.items _ (pages_of c.args.parts.now) c.self.view_is c.self.invariant c.requires.fit)
    (c.put_run.ensures.slots ∙ ap (λ (ps : List Part). take c.args.at c.self.inside.slots.items ++ slots_put (drop c.args.at c.self.inside.slots.items) (pages_of ps)) c.as_mut_slice.ensures.value)

pub invariant_of-self : goal.invariant_of-self
invariant_of-self c =
    let V : IovView → Type 0 = λ v. CanPut v c.args.at (pages_of c.args.parts.now) in
    subst IsIov (sym (view_is c)) (kept_put (iov_view c.self.inside.page_size c.self.inside.slots.items c.self.inside.lengths.items c.self.inside.place) c.args.at (pages_of c.args.parts.now) c.self.invariant (subst V (sym c.self.view_is) c.requires.fit))

pub returns-clause-state : goal.returns-clause-state
returns-clause-state c = view_is c ∙ ap (λ (v : IovView). after_put v c.args.at (pages_of c.args.parts.now)) c.self.view_is
