use Rattle.extent_map.proofs.Unique.{merged_unique}
use Rattle.extent_map.proofs.laws.merged_list_is_unique.Goals as goal

pub returns : goal.returns
returns c = merged_unique
