use Rattle.std.proofs.Common.{◌≡◌, None, sym, ap, ◌∙◌, arith}
use Rattle.io_model.specs.Effects.{overlay}
use Rattle.range_core.specs.EntryCounts.{one_where}
use Rattle.range_core.specs.Paging.{filled, lacks_page}
use Rattle.range_core.specs.Stores.{dirtied, next_bytes}
use Rattle.range_core.specs.declared.cell.Cell.{Cell}
use Rattle.range_core.proofs.StockLemmas.{bare_same, lacks_none, lacks_some, laid_own, own_fits}
use Rattle.range_core.proofs.range.store.store_part.Goals as goal

pub store_new-requires-clause-some : goal.store_new-requires-clause-some
store_new-requires-clause-some c = c.requires.some (lacks_none c.args.cell.now (sym c.take.ensures.value ∙ c.in_default.is))

pub put_part-requires-clause-whole : goal.put_part-requires-clause-whole
put_part-requires-clause-whole c = own_fits c.args.size _ c.args.cell.now c.in-Some.page c.requires.own (sym c.take.ensures.value ∙ c.in-Some.is) c.requires.inside

pub returns-in_default-clause-cell : goal.returns-in_default-clause-cell
returns-in_default-clause-cell c =
    let none : c.args.cell.now.page ≡ None = sym c.take.ensures.value ∙ c.in_default.is in
    let own : Cell = record c.args.cell.now { page = c.take.new.self } in
    let is : own ≡ c.args.cell.now = ap (λ o. record c.args.cell.now { page = o }) c.take.ensures.after ∙ bare_same c.args.cell.now none in
    c.store_new.ensures.cell ∙ ap (λ (x : Cell). dirtied (overlay c.args.part.at (next_bytes c.args.iov.now c.args.part.length)) (filled c.args.size x)) is

pub returns-clause-cell : goal.returns-clause-cell
returns-clause-cell c = c.put_part.ensures.cell ∙ laid_own c.args.size _ c.args.cell.now c.in-Some.page (sym c.take.ensures.value ∙ c.in-Some.is)

pub returns-in_default-clause-left : goal.returns-in_default-clause-left
returns-in_default-clause-left c =
    let one : one_where (lacks_page c.args.cell.now) ≡ 1 = ap one_where (lacks_none c.args.cell.now (sym c.take.ensures.value ∙ c.in_default.is)) in
    omega (arith, one, c.store_new.ensures.left)

pub returns-clause-left : goal.returns-clause-left
returns-clause-left c =
    let zero : one_where (lacks_page c.args.cell.now) ≡ 0 = lacks_some c.args.cell.now c.in-Some.page (sym c.take.ensures.value ∙ c.in-Some.is) in
    omega (arith, zero)
