use Rattle.range_core.proofs.StockLemmas.{around_twice}
use Rattle.range_core.proofs.range.store.clear_around.Goals as goal

pub returns : goal.returns
returns c = around_twice c.args.size c.args.part c.args.page c.clear_page-first.result c.clear_page.result c.requires.page c.requires.inside c.clear_page-first.ensures c.clear_page.ensures
