use Rattle.std.proofs.Common.{◌≡◌, ◌+◌, ◌-◌, ◌*◌, ◌++◌, ℕ, List, [], All, arith, sym, ap, ◌∙◌, subst}
use Rattle.iob_base.specs.Parting.{IsBare, bare_parts, pages_of}
use Rattle.iob_base.specs.declared.part.Part.{Part}
use Rattle.iob_base.specs.declared.sector.Page.{Page}
use Rattle.iob_base.proofs.PartLemmas.{bare_parts-bare, pages_of-bare}
use Rattle.iov_iter.specs.IovView.{IovView, moved_to}
use Rattle.iov_iter.specs.Moving.{CanPut, after_put, after_take, next_pages, page_of}
use Rattle.iov_iter.proofs.LawLemmas.{taken_pages_back, taken_pages_fit}
use Rattle.worked_cells.proofs.iovs.lends_two_pages.Goals as goal

-- what pages leave of a list without parts are the parts of these pages
parts_are : (parts before : List Part) (pages : List Page) → parts ≡ before ++ bare_parts pages → before ≡ [] → parts ≡ bare_parts pages
parts_are parts before pages is empty = is ∙ ap (λ (ps : List Part). ps ++ bare_parts pages) empty

pub put_pages-requires-clause-bare : goal.put_pages-requires-clause-bare
put_pages-requires-clause-bare c =
    let B : List Part → Type 0 = All IsBare in
    subst B (sym (parts_are c.take_pages.new.into c.args.parts.now (next_pages c.args.iov.now 2) c.take_pages.ensures.pages c.requires.empty)) (bare_parts-bare (next_pages c.args.iov.now 2))

pub put_pages-requires-clause-fit : goal.put_pages-requires-clause-fit
put_pages-requires-clause-fit c =
    let I : ℕ → Type 0 = λ i. CanPut (after_take c.args.iov.now 2) i (next_pages c.args.iov.now 2) in
    let G : List Page → Type 0 = λ gs. CanPut (after_take c.args.iov.now 2) 0 gs in
    let V : IovView → Type 0 = λ v. CanPut v 0 (pages_of c.take_pages.new.into) in
    let pages_are : pages_of c.take_pages.new.into ≡ next_pages c.args.iov.now 2 = ap pages_of (parts_are c.take_pages.new.into c.args.parts.now (next_pages c.args.iov.now 2) c.take_pages.ensures.pages c.requires.empty) ∙ pages_of-bare (next_pages c.args.iov.now 2) in
    subst V (sym c.take_pages.ensures.state) (subst G (sym pages_are) (subst I c.requires.first (taken_pages_fit c.args.iov.now 2 c.requires.valid c.requires.whole)))

pub returns-clause-same : goal.returns-clause-same
returns-clause-same c =
    let put : c.put_pages.new.self ≡ after_put (after_take c.args.iov.now 2) (page_of c.args.iov.now.pages c.args.iov.now.place) (next_pages c.args.iov.now 2) =
    c.put_pages.ensures.state ∙ ap (λ (v : IovView). after_put v 0 (pages_of c.take_pages.new.into)) c.take_pages.ensures.state
    ∙ ap (λ (gs : List Page). after_put (after_take c.args.iov.now 2) 0 gs) (ap pages_of (c.take_pages.ensures.pages ∙ ap (λ (ps : List Part). ps ++ bare_parts (next_pages c.args.iov.now 2)) c.requires.empty) ∙ pages_of-bare (next_pages c.args.iov.now 2))
    ∙ ap (λ i. after_put (after_take c.args.iov.now 2) i (next_pages c.args.iov.now 2)) (sym c.requires.first) in
    let back : c.args.iov.now.place + 2 * c.args.iov.now.page_size - 32 ≡ c.args.iov.now.place = omega (arith, c.requires.size, c.requires.start) in
    c.revert.ensures ∙ ap (λ (v : IovView). moved_to (v.place - 32) v) put
    ∙ ap (λ p. moved_to p (after_put (after_take c.args.iov.now 2) (page_of c.args.iov.now.pages c.args.iov.now.place) (next_pages c.args.iov.now 2))) back
    ∙ taken_pages_back c.args.iov.now 2 c.requires.valid c.requires.whole
