use Rattle.folio_bits.proofs.Meaning.{last_is_told_after_all}
use Rattle.folio_bits.proofs.laws.last_is_told_after_all.Goals as goal

pub returns : goal.returns
returns c = last_is_told_after_all
