use Rattle.std.proofs.Common.{◌+◌, ◌<◌, length, arith, refl}
use Rattle.range_core.specs.LendWritebacks.{dirtied_cell}
use Rattle.range_core.proofs.OnRunLemmas.{each_more, on_each-none}
use Rattle.range_core.proofs.range.lend_writeback.mark_run_dirty.Goals as goal

pub loop-i-init : goal.loop-i-init
loop-i-init c = record { cells = on_each-none (λ _. dirtied_cell) 0 c.args.low c.args.cells.now.items; many = refl }

pub loop-i-preserved : goal.loop-i-preserved
loop-i-preserved c =
    let inv = c.loop-i.invariant in
    let within : c.args.low + c.loop-i.i < length c.args.cells.now.items = omega (arith, c.args.cells.now.ok.0, c.requires) in
    record {
      cells = each_more (λ _. dirtied_cell) c.args.low c.loop-i.i c.args.cells.now.items c.loop-i.cells.items c.index_mut.result.now c.mark_dirty.new.cell inv.cells c.index_mut.ensures.value within c.mark_dirty.ensures;
      many = inv.many;
    }
