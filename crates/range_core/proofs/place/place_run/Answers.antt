use Rattle.std.proofs.Common.{ℕ, ◌+◌, ◌<◌, List, drop, length, ◌∙◌, ap, arith}
use Rattle.iob_base.specs.DeviceBlock.{DeviceBlock}
use Rattle.range_core.specs.Placing.{placed_at}
use Rattle.range_core.specs.declared.cell.Cell.{Cell}
use Rattle.range_core.proofs.OnRunLemmas.{count_on-none, on_each-none}
use Rattle.range_core.proofs.PlaceLemmas.{left_more, placed_more}
use Rattle.range_core.proofs.place.place_run.Goals as goal

pub loop-i-init : goal.loop-i-init
loop-i-init g c =
    let p = g.T.Picks.picks c.args.test.now in
    let first : List Cell = c.args.cells.now.items in
    let sectors : List DeviceBlock = c.args.sectors.items in
    record {
      cells = on_each-none (placed_at p c.args.low first sectors) 0 c.args.low first;
      many = omega arith;
      rest = c.into_iter-rest.ensures.rest ∙ ap (λ n. drop n sectors) (count_on-none p c.args.low first);
    }

pub loop-i-preserved : goal.loop-i-preserved
loop-i-preserved g c =
    let p = g.T.Picks.picks c.args.test.now in
    let first : List Cell = c.args.cells.now.items in
    let sectors : List DeviceBlock = c.args.sectors.items in
    let inv = c.loop-i.invariant in
    let i : ℕ = c.loop-i.i in
    let low : ℕ = c.args.low in
    let within : low + i < length first = omega (arith, c.args.cells.now.ok.0, c.requires) in
    record {
      cells = placed_more p low i first c.loop-i.cells.items sectors _ c.index_mut.result.now c.place_next.new.cell inv.cells c.index_mut.ensures.value within inv.rest c.place_next.ensures.cell;
      many = omega arith;
      rest = left_more p low i first c.loop-i.cells.items sectors _ _ c.index_mut.result.now inv.cells c.index_mut.ensures.value within inv.rest c.place_next.ensures.left;
    }
