use Rattle.folio_bits.proofs.Folios.{none_set}
use Rattle.folio_bits.proofs.bits.FolioBits.new.Goals as goal

pub returns : goal.returns
returns c = none_set c.args.blocks
