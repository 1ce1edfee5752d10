use Rattle.std.proofs.Common.{refl}
use Rattle.io_script.specs.Generated.{drawn}
use Rattle.io_script.proofs.generator.number_at.Goals as goal

pub returns : goal.returns
unfolding drawn
returns c = refl
