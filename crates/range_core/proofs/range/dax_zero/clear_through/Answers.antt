use Rattle.std.proofs.Common.{◌≡◌, ℕ, ◌+◌, ◌-◌, ◌<◌, ◌≤◌, length, refl, ◌∙◌, ap, arith}
use Rattle.range_core.specs.DaxZeros.{cleared_through, zeroed_through}
use Rattle.range_core.specs.declared.cell.Cell.{Cell}
use Rattle.range_core.specs.declared.parts.BlockPart.{BlockPart}
use Rattle.range_core.proofs.DaxZeroLemmas.{cleared-through}
use Rattle.range_core.proofs.OnRunLemmas.{each_more, on_each-none}
use Rattle.range_core.proofs.ThroughLemmas.{mapped_part}
use Rattle.range_core.proofs.range.dax_zero.clear_through.Goals as goal

pub loop-k-init : goal.loop-k-init
loop-k-init c = record { cells = on_each-none (zeroed_through c.args.run) 0 (c.args.run.first - c.args.first) c.args.cells.now.items; many = refl }

pub clear_part-requires : goal.clear_part-requires
clear_part-requires c =
    let run = c.args.run in
    let low = c.requires.low in
    let within : run.first - c.args.first + run.blocks ≤ length c.args.cells.now.items = omega (arith, c.requires.high, c.args.cells.now.ok.0) in
    mapped_part run c.args.first (zeroed_through run) c.args.cells.now.items c.loop-k.cells.items c.loop-k.k c.index_mut.result.now c.block_part.result.at c.block_part.result.length c.requires.ready c.loop-k-test.true within c.loop-k.invariant.cells c.index_mut.ensures.value c.block_part.ensures.within

pub loop-k-preserved : goal.loop-k-preserved
loop-k-preserved c =
    let run = c.args.run in
    let k : ℕ = c.loop-k.k in
    let cell : Cell = c.index_mut.result.now in
    let low = c.requires.low in
    let l = c.loop-k-test.true in
    let within : run.first - c.args.first + k < length c.args.cells.now.items = omega (arith, c.requires.high, c.args.cells.now.ok.0) in
    let written : c.clear_part.new.cell ≡ zeroed_through run k cell = c.clear_part.ensures ∙ ap (λ (p : BlockPart). cleared_through p cell) c.block_part.ensures.part ∙ cleared-through run c.requires.run k l cell in
    record {
      cells = each_more (zeroed_through run) (run.first - c.args.first) k c.args.cells.now.items c.loop-k.cells.items cell c.clear_part.new.cell c.loop-k.invariant.cells c.index_mut.ensures.value within written;
      many = c.loop-k.invariant.many;
    }
