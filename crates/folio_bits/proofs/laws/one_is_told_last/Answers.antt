use Rattle.folio_bits.proofs.Meaning.{one_is_told_last}
use Rattle.folio_bits.proofs.laws.one_is_told_last.Goals as goal

pub returns : goal.returns
returns c = one_is_told_last
