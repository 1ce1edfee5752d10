use Rattle.std.proofs.Common.{◌∙◌}
use Rattle.range_core.proofs.CachePages.{cache_zeroed}
use Rattle.range_core.proofs.fresh.page_of_zeros.Goals as goal

pub returns : goal.returns
returns c = c.zero_bytes.ensures ∙ cache_zeroed c.args.size c.in-Some.page c.in-Some.ensures.page
