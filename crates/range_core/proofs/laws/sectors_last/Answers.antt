use Rattle.range_core.proofs.SectorLemmas.{sectors_last}
use Rattle.range_core.proofs.laws.sectors_last.Goals as goal

pub returns : goal.returns
returns c = sectors_last
