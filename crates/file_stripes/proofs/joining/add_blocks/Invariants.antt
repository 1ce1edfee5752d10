use Rattle.std.proofs.Common.{◌≡◌, ◌++◌}
use Rattle.file_stripes.proofs.joining.add_blocks.Given as goal

abbrev pub invariant-loop-block : goal.invariant-loop-block
invariant-loop-block l = l.blocks.items ≡ l.initial.blocks.items ++ l.yielded
