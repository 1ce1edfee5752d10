use Rattle.range_core.proofs.ConversionLemmas.{only_writes_map}
use Rattle.range_core.proofs.laws.only_writes_map.Goals as goal

pub returns : goal.returns
returns c = only_writes_map
