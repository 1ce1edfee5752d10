use Rattle.extent_map.proofs.Unique.{lookup_unique}
use Rattle.extent_map.proofs.laws.lookup_is_unique.Goals as goal

pub returns : goal.returns
returns c = lookup_unique
