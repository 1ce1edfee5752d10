use Rattle.range_core.proofs.ClosingLemmas.{own_entries_alone}
use Rattle.range_core.proofs.laws.own_entries_alone.Goals as goal

pub returns : goal.returns
returns c = own_entries_alone
