use Rattle.std.proofs.Common.{rules}
use Rattle.range_core.proofs.JudgeLemmas.{stands}
use Rattle.range_core.proofs.range.Range.direct_now.Goals as goal

pub returns : goal.returns
returns g c =
    let e = c.read_now.ensures in
    record {
      made = e.made;
      count = e.count;
      read = e.read;
      state = e.state;
      judged = stands (λ same. search rules) (λ done so. search rules) e.judged;
      passed = e.passed;
      refused = e.refused;
      unchanged = e.unchanged;
      unfilled = e.unfilled;
      shapes = e.shapes;
      sectors = e.sectors;
    }
