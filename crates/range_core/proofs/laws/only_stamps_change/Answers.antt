use Rattle.range_core.proofs.ChangeLemmas.{only_stamps_change}
use Rattle.range_core.proofs.laws.only_stamps_change.Goals as goal

pub returns : goal.returns
returns c = only_stamps_change
