use Rattle.std.proofs.Common.{rules}
use Rattle.range_core.proofs.JudgeLemmas.{stands}
use Rattle.range_core.proofs.range.Range.dax_put.Goals as goal

pub returns : goal.returns
returns g c =
    let e = c.put_through.ensures.answers in
    record {
      made = e.made;
      state = e.state;
      moved = e.moved;
      judged = stands (λ same. search rules) (λ done so. search rules) e.judged;
      passed = e.passed;
      refused = e.refused;
      unchanged = e.unchanged;
      nothing = e.nothing;
    }
