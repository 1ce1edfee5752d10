use Rattle.std.proofs.Common.{ℕ, ◌+◌, ◌<◌, List, length, ap, ◌∙◌, arith, refl}
use Rattle.range_core.specs.DirectNows.{without_mapped_page}
use Rattle.range_core.specs.OnRun.{on_run}
use Rattle.range_core.specs.declared.cell.Cell.{Cell}
use Rattle.range_core.proofs.OnRunLemmas.{each_more, on_each-none}
use Rattle.range_core.proofs.range.direct_now.drop_mapped_run.Goals as goal

abbrev drops : ℕ → Cell → Cell
drops _ c = without_mapped_page c

pub loop-i-init : goal.loop-i-init
loop-i-init c = record { cells = on_each-none drops 0 c.args.low c.args.cells.now.items; many = refl }

pub loop-i-preserved : goal.loop-i-preserved
loop-i-preserved c =
    let i : ℕ = c.loop-i.i in
    let low : ℕ = c.args.low in
    let first : List Cell = c.args.cells.now.items in
    let now : List Cell = c.loop-i.cells.items in
    let inv = c.loop-i.invariant in
    let within : low + i < length first = omega (arith, c.args.cells.now.ok.0, c.requires) in
    record {
      cells = each_more drops low i first now c.index_mut.result.now c.drop_mapped_page.new.cell inv.cells c.index_mut.ensures.value within c.drop_mapped_page.ensures;
      many = inv.many;
    }

pub returns : goal.returns
returns c = c.loop-i.invariant.cells ∙ ap (λ n. on_run without_mapped_page c.args.low n c.args.cells.now.items) (omega arith)
