use Rattle.folio_bits.proofs.Meaning.{somebody_is_told_last}
use Rattle.folio_bits.proofs.laws.somebody_is_told_last.Goals as goal

pub returns : goal.returns
returns c = somebody_is_told_last
