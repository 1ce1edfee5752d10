use Rattle.std.proofs.Common.{arith}
use Rattle.extent_map.proofs.Following.{no_extent}
use Rattle.extent_map.proofs.Seeking.{end_of_last}
use Rattle.extent_map.proofs.seek.blocks_of.Goals as goal

pub overflow_add-result : goal.overflow_add-result
overflow_add-result c = omega (arith, end_of_last c.args.runs.now no_extent c.requires.follow (omega arith))

pub returns : goal.returns
returns c = end_of_last c.args.runs.now no_extent c.requires.follow (omega arith)
