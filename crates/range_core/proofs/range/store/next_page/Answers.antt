use Rattle.std.proofs.Common.{◌≡◌, ◌-◌, List, Some, All, sym, ◌∙◌, subst, arith, get_or}
use Rattle.std.proofs.lemmas.List.Elements.{All-take}
use Rattle.iob_base.specs.declared.sector.Page.{Page}
use Rattle.range_core.specs.Pages.{IsCachePage}
use Rattle.range_core.proofs.range.store.next_page.Goals as goal

pub clear_around-requires-clause-page : goal.clear_around-requires-clause-page
clear_around-requires-clause-page c =
    let page : Page = c.in-Some.page in
    let pages : List Page = c.args.stock.now.items in
    let n = c.args.stock.now.len in
    let both : Some page ≡ Some (get_or pages (n - 1) page) = sym c.in-Some.is ∙ c.pop.ensures.value page (omega (arith, c.requires.some)) in
    let is : get_or pages (n - 1) page ≡ page = cc in
    let C : Page → Type 0 = λ p. IsCachePage c.args.size p in
    subst C is (c.requires.kept (n - 1) page (omega (arith, c.requires.some, c.args.stock.now.ok.0)))

pub returns-clause-rest : goal.returns-clause-rest
returns-clause-rest c =
    let A : List Page → Type 0 = λ ps. All (IsCachePage c.args.size) ps in
    subst A (sym c.pop.ensures.rest) (All-take (IsCachePage c.args.size) _ c.args.stock.now.items c.requires.kept)
