use Rattle.folio_bits.proofs.Words.{shifted_le}
use Rattle.folio_bits.proofs.mask.run_mask.Goals as goal

pub overflow_sub-result : goal.overflow_sub-result
overflow_sub-result c = shifted_le c.args.from c.args.end c.requires.order c.requires.within
