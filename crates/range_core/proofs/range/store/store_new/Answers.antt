use Rattle.std.proofs.Common.{arith, ◌∙◌}
use Rattle.range_core.proofs.StockLemmas.{laid_new}
use Rattle.range_core.proofs.StoreLemmas.{length-next_bytes}
use Rattle.range_core.proofs.range.store.store_new.Goals as goal

pub put_part-requires-clause-whole : goal.put_part-requires-clause-whole
put_part-requires-clause-whole c = omega (arith, c.next_page-page.ensures.page.whole, c.requires.inside)

pub returns-clause-cell : goal.returns-clause-cell
returns-clause-cell c =
    c.put_part.ensures.cell ∙ laid_new c.args.size c.args.part _ c.args.cell.now c.next_page-page.result c.requires.none c.next_page-page.ensures.page (length-next_bytes c.args.iov.now c.args.part.length c.requires.room)
