use Rattle.std.proofs.Common.{List, All, arith, sym, subst}
use Rattle.std.proofs.lemmas.List.Elements.{All-nil, All-push}
use Rattle.iob_base.specs.declared.sector.Page.{Page}
use Rattle.range_core.specs.Pages.{IsCachePage}
use Rattle.range_core.proofs.fresh.any_pages.Goals as goal

pub loop-init : goal.loop-init
loop-init c =
    let A : List Page → Type 0 = λ ps. All (IsCachePage c.args.size) ps in
    record { many = omega (arith, c.in_ok-pages.ensures.len); kept = subst A (sym c.in_ok-pages.ensures.items) (All-nil (IsCachePage c.args.size)) }

pub loop-preserved : goal.loop-preserved
loop-preserved c =
    let A : List Page → Type 0 = λ ps. All (IsCachePage c.args.size) ps in
    record {
      many = omega (arith, c.in_ok-push.ensures.len, c.loop.invariant.many);
      kept = subst A (sym c.in_ok-push.ensures.items) (All-push (IsCachePage c.args.size) c.loop.pages.items c.in_ok-any_page.field-0 c.loop.invariant.kept c.in_ok-any_page.ensures);
    }
