use Rattle.std.proofs.Common.{rules}
use Rattle.range_core.proofs.JudgeLemmas.{stands}
use Rattle.range_core.proofs.range.Range.dax_get.Goals as goal

pub returns : goal.returns
returns g c =
    let e = c.get_through.ensures in
    record {
      made = e.made;
      state = e.state;
      bytes = e.bytes;
      judged = stands (λ same. search rules) (λ done so. search rules) e.judged;
      passed = e.passed;
      refused = e.refused;
      unchanged = e.unchanged;
      nothing = e.nothing;
    }
