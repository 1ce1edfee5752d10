use Rattle.range_core.proofs.RefusedLemmas.{refused_is_quiet}
use Rattle.range_core.proofs.laws.refused_is_quiet.Goals as goal

pub returns : goal.returns
returns c = refused_is_quiet
