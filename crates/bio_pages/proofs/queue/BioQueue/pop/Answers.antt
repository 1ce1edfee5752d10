use Rattle.bio_pages.proofs.QueueKeeps.{gets, learns}
use Rattle.bio_pages.proofs.queue.BioQueue.pop.Goals as goal

pub pop_as-requires-clause-rule : goal.pop_as-requires-clause-rule
pop_as-requires-clause-rule g c = (gets _ _, learns _ _)
