use Rattle.std.proofs.Common.{◌≡◌, ap, arith}
use Rattle.turn_cell.specs.Stakes.{total}
use Rattle.space_pool.proofs.Weighing.{total-permutation}
use Rattle.space_pool.proofs.free.heap_of.Goals as goal

pub returns-clause-same : goal.returns-clause-same
returns-clause-same c f =
    let all = total-permutation f _ _ c.from.ensures.1 in
    let moved = c.name_all.ensures.moved f in
    let none : total f c.in_ok-named.named.items ≡ 0 = ap (total f) c.in_ok-named.ensures.items in
    omega (arith, all, moved, none)
