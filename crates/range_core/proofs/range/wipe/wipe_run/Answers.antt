use Rattle.std.proofs.Common.{ℕ, ◌+◌, ◌<◌, List, length, ap, arith}
use Rattle.range_core.specs.declared.cell.Cell.{Cell}
use Rattle.range_core.specs.Wipes.{wiped}
use Rattle.range_core.proofs.OnRunLemmas.{each_more, on_each-none}
use Rattle.range_core.proofs.WipeLemmas.{sectors_more}
use Rattle.range_core.proofs.range.wipe.wipe_run.Goals as goal

abbrev wipes : ℕ → Cell → Cell
wipes _ c = wiped c

pub loop-i-init : goal.loop-i-init
loop-i-init c = record { cells = on_each-none wipes 0 c.args.low c.args.cells.now.items; many = omega arith; sectors = c.requires.empty; few = omega (arith, ap length c.requires.empty, c.args.sectors.now.ok.0); capacity = omega arith }

pub loop-i-preserved : goal.loop-i-preserved
loop-i-preserved c =
    let i : ℕ = c.loop-i.i in
    let low : ℕ = c.args.low in
    let first : List Cell = c.args.cells.now.items in
    let inv = c.loop-i.invariant in
    let within : low + i < length first = omega (arith, c.args.cells.now.ok.0, c.requires.within) in
    let told = c.wipe_block.ensures in
    record {
      cells = each_more wipes low i first c.loop-i.cells.items c.index_mut.result.now c.wipe_block.new.cell inv.cells c.index_mut.ensures.value within told.cell;
      many = omega arith;
      sectors = sectors_more low i first c.loop-i.cells.items c.index_mut.result.now c.loop-i.sectors.items c.wipe_block.new.sectors.items inv.cells c.index_mut.ensures.value within inv.sectors told.sectors;
      few = omega (arith, told.few, inv.few);
      capacity = omega (arith, told.capacity, inv.capacity);
    }
