use Rattle.extent_map.proofs.Unique.{merged_says}
use Rattle.extent_map.proofs.laws.merged_list_says_the_kinds.Goals as goal

pub returns : goal.returns
returns c = merged_says
