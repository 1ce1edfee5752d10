use Rattle.buffered_write.proofs.PartReadLemmas.{in-part-most}
use Rattle.buffered_write.proofs.part_reads.few_in_part.Goals as goal

pub returns : goal.returns
returns c = λ size from to some. in-part-most size from to some
