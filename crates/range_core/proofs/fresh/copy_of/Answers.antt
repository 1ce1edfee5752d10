use Rattle.std.proofs.Common.{length, sym, ap, ◌∙◌}
use Rattle.range_core.specs.Pages.{cache_page}
use Rattle.range_core.proofs.CachePages.{cache_copied}
use Rattle.range_core.proofs.fresh.copy_of.Goals as goal

pub copy_from_slice-requires : goal.copy_from_slice-requires
copy_from_slice-requires c = c.in-Some.ensures.page.whole ∙ c.len.ensures ∙ ap length (sym c.as_slice-2.ensures)

pub returns : goal.returns
returns c =
    cache_copied c.len.result c.in-Some.copy c.copy_from_slice.new.self c.in-Some.ensures.page ∙ ap cache_page (c.copy_from_slice.ensures ∙ c.as_slice-2.ensures)
