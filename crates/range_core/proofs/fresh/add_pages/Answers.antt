use Rattle.std.proofs.Common.{List, length, All, arith, sym, ap, ◌∙◌, subst}
use Rattle.std.proofs.lemmas.List.{length_push, map_push}
use Rattle.std.proofs.lemmas.List.Elements.{All-push}
use Rattle.iob_base.specs.Parting.{bare_part, pages_of}
use Rattle.iob_base.specs.declared.part.Part.{Part}
use Rattle.iob_base.specs.declared.sector.Page.{Page}
use Rattle.range_core.specs.Pages.{IsCachePage}
use Rattle.range_core.proofs.fresh.add_pages.Goals as goal

pub loop-preserved : goal.loop-preserved
loop-preserved c =
    let size = c.args.size in
    let page : Page = c.in-Ok.page in
    let parts : List Part = c.loop.parts in
    let A : List Page → Type 0 = λ ps. All (IsCachePage size) ps in
    let P : List Part → Type 0 = λ ps. All (IsCachePage size) (pages_of ps) in
    record {
      many = ap length c.push_page.ensures ∙ omega (arith, length_push parts (bare_part page), c.loop.invariant.many);
      pages = subst P (sym c.push_page.ensures) (subst A (sym (map_push (λ (p : Part). p.page) parts (bare_part page))) (All-push (IsCachePage size) (pages_of parts) page c.loop.invariant.pages c.in-Ok.ensures));
    }
