use Rattle.std.proofs.Common.{◌≡◌, [], ◌∷◌, ◌++◌, ap, ◌∙◌, arith}
use Rattle.turn_cell.specs.Stakes.{total}
use Rattle.turn_cell.proofs.Sums.{total-append}
use Rattle.space_pool.proofs.free.name_all.Goals as goal

pub loop-sector-preserved : goal.loop-sector-preserved
loop-sector-preserved c =
    let pop = c.in-Some.ensures in
    let push = c.push_reserved.ensures in
    let was = c.loop-sector.invariant in
    record {
      room = omega (arith, pop.len, push.len, push.capacity, was.room);
      len = omega (arith, pop.len, push.len, was.len);
      weighs = λ f.
          let p : total f c.push_reserved.new.self.items ≡ total f (c.loop-sector.into.items ++ c.in-Some.sector ∷ []) = ap (total f) push.items in
          let q : total f c.loop-sector.sectors.items ≡ total f (c.pop.new.self.items ++ c.in-Some.sector ∷ []) = ap (total f) pop.items in
          omega (arith, p, q, total-append f c.loop-sector.into.items (c.in-Some.sector ∷ []), total-append f c.pop.new.self.items (c.in-Some.sector ∷ []), was.weighs f);
      kept = pop.capacity ∙ was.kept;
    }
