use Rattle.std.proofs.Common.{◌+◌, ap, sym, subst, ◌∙◌, arith, List, ◌++◌, ◌∷◌, []}
use Rattle.std.specs.BinaryHeap.{heap_items}
use Rattle.iob_base.specs.DeviceBlock.{DeviceBlock}
use Rattle.space_pool.specs.Sectors.{TakesLowest}
use Rattle.space_pool.proofs.TakingLowest.{takes-none, takes-more, top-is-lowest}
use Rattle.space_pool.proofs.free.pop_lowest.Goals as goal

pub loop-init : goal.loop-init
loop-init c = record {
  taken = takes-none (heap_items c.args.heap.now) c.args.into.now.items;
  len = omega arith;
  into = omega arith;
  capacity = omega arith;
  kept = omega arith;
  ordered = c.requires.heap_order;
}

pub loop-preserved : goal.loop-preserved
loop-preserved c =
    let popped = c.in-Some.ensures in
    let was = c.loop.invariant in
    let x : DeviceBlock = c.in-Some.lowest in
    let left : List DeviceBlock = heap_items c.loop.heap in
    let rest : List DeviceBlock = heap_items c.pop.new.self in
    let pushed = c.push_reserved.ensures in
    let more : TakesLowest (c.loop.counter + 1) (heap_items c.args.heap.now) c.args.into.now.items rest (c.loop.into.items ++ x ∷ []) =
    takes-more c.loop.counter (heap_items c.args.heap.now) c.args.into.now.items left c.loop.into.items rest x was.taken popped.permutation
    (top-is-lowest x rest (popped.below_top was.ordered)) in
    record {
      taken = subst (TakesLowest (c.loop.counter + 1) (heap_items c.args.heap.now) c.args.into.now.items rest)
          (ap (λ s. c.loop.into.items ++ s ∷ []) (sym c.into_sector.ensures) ∙ sym pushed.items) more;
      len = omega (arith, popped.len, was.len);
      into = omega (arith, pushed.len, was.into);
      capacity = popped.capacity ∙ was.capacity;
      kept = pushed.capacity ∙ was.kept;
      ordered = (popped.heap_order was.ordered).0;
    }
