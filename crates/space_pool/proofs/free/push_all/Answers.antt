use Rattle.std.proofs.Common.{◌≡◌, [], ◌∷◌, ◌++◌, ap, ◌∙◌, arith}
use Rattle.turn_cell.specs.Stakes.{total}
use Rattle.turn_cell.proofs.Sums.{total-append}
use Rattle.space_pool.proofs.Weighing.{total-permutation}
use Rattle.space_pool.proofs.free.push_all.Goals as goal

pub loop-sector-preserved : goal.loop-sector-preserved
loop-sector-preserved c =
    let pop = c.in-Some.ensures in
    let push = c.in-Ok.ensures in
    let was = c.loop-sector.invariant in
    record {
      room = omega (arith, pop.len, push.len, push.capacity, was.room);
      len = omega (arith, pop.len, push.len, was.len);
      weighs = λ f.
          let p = total-permutation f _ _ push.permutation in
          let q : total f c.loop-sector.sectors.items ≡ total f (c.pop.new.self.items ++ c.in-Some.sector ∷ []) = ap (total f) pop.items in
          omega (arith, p, q, total-append f c.pop.new.self.items (c.in-Some.sector ∷ []), was.weighs f);
      kept = pop.capacity ∙ was.kept;
      grows = omega (arith, push.capacity, was.grows);
      ordered = λ h. push.heap_order (was.ordered h);
    }
