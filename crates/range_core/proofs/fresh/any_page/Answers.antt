use Rattle.std.proofs.Common.{sym, subst}
use Rattle.iob_base.specs.declared.sector.Page.{Page}
use Rattle.range_core.specs.Pages.{IsCachePage}
use Rattle.range_core.proofs.CachePages.{zero_is_cache}
use Rattle.range_core.proofs.fresh.any_page.Goals as goal

pub returns-in_default : goal.returns-in_default
returns-in_default c = let C : Page → Type 0 = λ p. IsCachePage c.args.size p in subst C (sym c.in_ok-page.ensures) (zero_is_cache c.args.size)
