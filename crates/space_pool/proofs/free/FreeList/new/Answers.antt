use Rattle.std.proofs.Common.{◌≡◌, ap, arith}
use Rattle.std.specs.BinaryHeap.{heap_items}
use Rattle.turn_cell.specs.Stakes.{total}
use Rattle.turn_cell.proofs.Sums.{total-append}
use Rattle.space_pool.proofs.Weighing.{total-permutation}
use Rattle.space_pool.proofs.free.FreeList.new.Goals as goal

pub returns-clause-ok : goal.returns-clause-ok
returns-clause-ok c f =
    let empty = heap_items c.in-Ok-with_capacity.heap in
    let full = heap_items c.in-Ok-heap_of.all in
    let all = total-permutation f _ _ c.in-Ok-append.ensures.permutation in
    let both = total-append f empty full in
    let none : total f empty ≡ 0 = ap (total f) c.in-Ok-with_capacity.ensures.items in
    let same = c.in-Ok-heap_of.ensures.same f in
    let kept : total f c.reserve.new.self.items ≡ total f c.args.sectors.items = ap (total f) c.in-Ok.ensures.items in
    omega (arith, all, both, none, same, kept)
