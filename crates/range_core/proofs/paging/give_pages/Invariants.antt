use Rattle.std.proofs.Common.{◌≡◌, vec_len}
use Rattle.range_core.proofs.PagingLemmas.{IsFilling}
use Rattle.range_core.proofs.paging.give_pages.Given as goal

abbrev pub invariant-loop-i : goal.invariant-loop-i
invariant-loop-i g l = record {
  filling : IsFilling (g.T.Needs.needs l.test) l.size l.low l.blocks l.i l.initial.cells.items l.cells.items l.stock.items;
  many : vec_len l.cells ≡ vec_len l.initial.cells;
}
