use Rattle.std.proofs.Common.{ℕ, ◌+◌, ◌<◌, List, length, arith}
use Rattle.range_core.specs.Reserves.{unpromised}
use Rattle.range_core.specs.declared.cell.Cell.{Cell}
use Rattle.range_core.proofs.OnRunLemmas.{each_more, on_each-none}
use Rattle.range_core.proofs.range.reserve.release_run.Goals as goal

abbrev changed : ℕ → Cell → Cell
changed _ c = unpromised c

pub loop-i-init : goal.loop-i-init
loop-i-init c = record { cells = on_each-none changed 0 c.args.low c.args.cells.now.items; many = omega arith }

pub loop-i-preserved : goal.loop-i-preserved
loop-i-preserved c =
    let i : ℕ = c.loop-i.i in
    let low : ℕ = c.args.low in
    let first : List Cell = c.args.cells.now.items in
    let inv = c.loop-i.invariant in
    let within : low + i < length first = omega (arith, c.args.cells.now.ok.0, c.requires) in
    record {
      cells = each_more changed low i first c.loop-i.cells.items c.index_mut.result.now c.release.new.cell inv.cells c.index_mut.ensures.value within c.release.ensures;
      many = omega arith;
    }
