use Rattle.std.proofs.Common.{◌≡◌, ℕ, ◌+◌, ◌<◌, suc, List, length, get_or, ◌∙◌, ap, arith, refl}
use Rattle.range_core.specs.DropCleans.{is_droppable, without_clean_page}
use Rattle.range_core.specs.EntryCounts.{one_where}
use Rattle.range_core.specs.OnRun.{count_on}
use Rattle.range_core.specs.declared.cell.Cell.{Cell}
use Rattle.range_core.proofs.OnRunLemmas.{count_on-more, count_on-none, each_more, length-on_each, on_each-next, on_each-none}
use Rattle.range_core.proofs.range.drop_clean.drop_run.Goals as goal

abbrev drops : ℕ → Cell → Cell
drops _ c = without_clean_page c

pub loop-i-init : goal.loop-i-init
loop-i-init c = record {
  cells = on_each-none drops 0 c.args.low c.args.cells.now.items;
  many = refl;
  count = count_on-none is_droppable c.args.low c.args.cells.now.items;
  few = omega arith;
}

pub loop-i-preserved : goal.loop-i-preserved
loop-i-preserved c =
    let i : ℕ = c.loop-i.i in
    let low : ℕ = c.args.low in
    let first : List Cell = c.args.cells.now.items in
    let now : List Cell = c.loop-i.cells.items in
    let cell : Cell = c.index_mut.result.now in
    let inv = c.loop-i.invariant in
    let len : length now ≡ length first = ap length inv.cells ∙ length-on_each drops 0 low i first in
    let within : low + i < length first = omega (arith, c.args.cells.now.ok.0, c.requires) in
    let one : suc i ≡ i + 1 = omega arith in
    let at : cell ≡ get_or first (low + i) cell =
    c.index_mut.ensures.value ∙ ap (λ l. get_or l (low + i) cell) inv.cells ∙ on_each-next drops 0 low i (low + i) first cell refl within in
    let counted : c.drop_page-dropped.result ≡ one_where (is_droppable (get_or first (low + i) cell)) = c.drop_page-dropped.ensures.dropped ∙ ap (λ x. one_where (is_droppable x)) at in
    record {
      cells = each_more drops low i first now cell c.drop_page-dropped.new.cell inv.cells c.index_mut.ensures.value within c.drop_page-dropped.ensures.cell;
      many = omega (arith, inv.many);
      count =
          (let p = inv.count in let q = count_on-more is_droppable low i (low + i) first cell refl within in omega (arith, counted))
          ∙ ap (λ k. count_on is_droppable low k first) one;
      few = omega (arith, inv.few, c.drop_page-dropped.ensures.few);
    }
