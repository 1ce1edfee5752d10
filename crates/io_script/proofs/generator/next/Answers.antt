use Rattle.std.proofs.Common.{arith}
use Rattle.io_script.specs.Generated.{next_state}
use Rattle.io_script.proofs.generator.next.Goals as goal

pub returns : goal.returns
unfolding next_state
returns c = omega arith
