use Rattle.std.proofs.Common.{◌≡◌, ◌+◌, get_or, sym, ◌∙◌, ap, arith}
use Rattle.range_core.specs.EntryCounts.{one_where}
use Rattle.range_core.specs.declared.cell.Cell.{Cell}
use Rattle.range_core.proofs.CountLemmas.{count_on-step}
use Rattle.range_core.proofs.OnRunLemmas.{count_on-none}
use Rattle.range_core.proofs.place.count_run.Goals as goal
use Rattle.range_core.proofs.place.count_run.Goals.{then-is_picked, else-is_picked}

pub loop-i-init : goal.loop-i-init
loop-i-init g c = record { count = count_on-none (g.T.Picks.picks c.args.test.now) c.args.low c.args.cells.now; few = omega arith }

pub loop-i-preserved : goal.loop-i-preserved
loop-i-preserved g c =
    let p = g.T.Picks.picks c.args.test.now in
    let cell : Cell = c.index-cells-low.result in
    let inv = c.loop-i.invariant in
    let picked : one_where (p (get_or c.args.cells.now (c.args.low + c.loop-i.i) cell)) ≡ one_where c.is_picked.result =
    ap (λ x. one_where (p x)) (sym c.index-cells-low.is) ∙ sym (ap one_where c.is_picked.ensures) in
    elim c.if-is_picked.branch [
      | then-is_picked w ↦
          let one : one_where c.is_picked.result ≡ 1 = ap one_where w.if-is_picked.true in
          record { count = count_on-step p c.args.low c.loop-i.i c.args.cells.now cell c.loop-i.picked _ inv.count (omega arith) (omega arith); few = omega arith }
      | else-is_picked w ↦
          let none : one_where c.is_picked.result ≡ 0 = ap one_where w.if-is_picked.false in
          record { count = count_on-step p c.args.low c.loop-i.i c.args.cells.now cell c.loop-i.picked _ inv.count (omega arith) (omega arith); few = omega arith }
    ]
