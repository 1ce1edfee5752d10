use Rattle.range_core.proofs.WrittenStampLemmas.{writes_are_stamped}
use Rattle.range_core.proofs.laws.writes_are_stamped.Goals as goal

pub returns : goal.returns
returns c = writes_are_stamped
