use Rattle.range_core.proofs.WrittenLemmas.{mapped_was_written}
use Rattle.range_core.proofs.laws.mapped_was_written.Goals as goal

pub returns : goal.returns
returns c = mapped_was_written
